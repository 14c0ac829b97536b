use Rattle.std.proofs.Common.{◌≡◌, length}
use Rattle.std.specs.List.{filter_map, last_or}
use Rattle.mod_tally.specs.Settings.{task_among, task_word}
use Rattle.mod_tally.proofs.settings.task_among.Given as goal

abbrev pub invariant-loop-rest : goal.invariant-loop-rest
invariant-loop-rest l = last_or l.found (filter_map task_word l.rest) ≡ task_among l.args

abbrev pub decreases-loop-rest : goal.decreases-loop-rest
decreases-loop-rest l = length l.rest
