use Rattle.std.proofs.Common.{◌≡◌, true, false, refl, sym, ap, ◌∙◌, arith}
use Rattle.mod_env.specs.Value.{pieces_of, plain_next}
use Rattle.mod_env.proofs.FoundSoFarFacts.{no_pieces, piece_taken, pieces_break, pieces_end, pieces_out}
use Rattle.mod_env.proofs.value.pieces_of.Goals as goal

pub loop-left-init : goal.loop-left-init
loop-left-init c = rw c.new-pieces.ensures (no_pieces _)

pub loop-left-preserved : goal.loop-left-preserved
loop-left-preserved c =
    rw c.in_ok-push-in-One.ensures.ok (piece_taken _ _ _ c.in-One.piece _ _ _ c.loop-left-test.true refl (sym c.in_ok-next_piece.ensures ∙ ap plain_next c.in-One.is) c.loop-left.invariant)

pub returns-in-Ended : goal.returns-in-Ended
unfolding pieces_of
returns-in-Ended c = pieces_end _ _ _ _ c.loop-left-test.true (sym c.in_ok-next_piece.ensures ∙ ap plain_next c.in-Ended.is) c.loop-left.invariant

pub returns-in-Broken : goal.returns-in-Broken
unfolding pieces_of
returns-in-Broken c = pieces_break _ _ _ _ c.loop-left-test.true (sym c.in_ok-next_piece.ensures ∙ ap plain_next c.in-Broken.is) c.loop-left.invariant

pub returns-then-is_empty : goal.returns-then-is_empty
unfolding pieces_of
returns-then-is_empty c = let out : c.loop-left.left ≡ 0 = omega arith in pieces_out _ _ _ _ true out c.if-is_empty.ensures c.loop-left.invariant

pub returns-else-is_empty : goal.returns-else-is_empty
unfolding pieces_of
returns-else-is_empty c = let out : c.loop-left.left ≡ 0 = omega arith in pieces_out _ _ _ _ false out c.if-is_empty.ensures c.loop-left.invariant
