use Rattle.std.proofs.Common.{◌≡◌, length}
use Rattle.mod_env.specs.Value.{pieces_within}
use Rattle.mod_env.proofs.FoundSoFarFacts.{after_pieces}
use Rattle.mod_env.proofs.value.pieces_of.Given as goal

abbrev pub invariant-loop-left : goal.invariant-loop-left
invariant-loop-left l = after_pieces l.pieces (pieces_within l.left l.rest) ≡ pieces_within (length l.value) l.value

abbrev pub decreases-loop-left : goal.decreases-loop-left
decreases-loop-left l = l.left
