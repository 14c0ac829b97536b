use Rattle.std.proofs.Common.{◌≡◌, length}
use Rattle.mod_env.specs.Marks.{unspaced}
use Rattle.mod_env.proofs.marks.after_white.Given as goal

abbrev pub invariant-loop-rest : goal.invariant-loop-rest
invariant-loop-rest g l = unspaced g.T.MaybeWhite.white l.rest ≡ unspaced g.T.MaybeWhite.white l.text

abbrev pub decreases-loop-rest : goal.decreases-loop-rest
decreases-loop-rest g l = length l.rest
