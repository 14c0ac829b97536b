use Rattle.std.proofs.Common.{◌≡◌, length}
use Rattle.control_words.specs.Module.{last_part}
use Rattle.control_words.proofs.module.last_part.Given as goal

abbrev pub invariant-loop-rest : goal.invariant-loop-rest
invariant-loop-rest l = last_part l.path ≡ last_part l.part

abbrev pub decreases-loop-rest : goal.decreases-loop-rest
decreases-loop-rest l = length l.part
