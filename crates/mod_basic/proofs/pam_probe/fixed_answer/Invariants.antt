use Rattle.std.proofs.Common.{◌≡◌, None, length}
use Rattle.std.specs.List.{filter_map, last_or}
use Rattle.mod_basic.specs.Probe.{code_in}
use Rattle.mod_basic.proofs.pam_probe.fixed_answer.Given as goal

abbrev pub invariant-loop-rest : goal.invariant-loop-rest
invariant-loop-rest l = last_or l.found (filter_map code_in l.rest) ≡ last_or None (filter_map code_in l.args)

abbrev pub decreases-loop-rest : goal.decreases-loop-rest
decreases-loop-rest l = length l.rest
