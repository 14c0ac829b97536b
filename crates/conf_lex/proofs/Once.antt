-- A text has one reading: the piece at its beginning is known from what it has, and from what
-- follows it.
use Rattle.std.proofs.Common.{◌≡◌, ℕ, zero, suc, ◌-◌, Bool, true, false, not, ◌||◌, ◌&&◌, eqb, List, [], ◌∷◌, ◌++◌, length, drop, Option, Some, None, refl, ap, ◌∙◌, arith, append_assoc, append-nil, ◌⊎◌, inl, inr}
use Rattle.std.proofs.lemmas.Bool.{eqb-true}
use Rattle.pam_base.specs.Bytes.{has_byte}
use Rattle.pam_base.specs.White.{is_white}
use Rattle.conf_lex.specs.Piece.{Join, feed, return_feed, BracketUnit, escaped, joined, single, unit_bytes, units_bytes, Piece, newline, white, join, plain, bracket, open_bracket, comment, piece_bytes, spelling, begins_with, at_line_end, join_at, has_join, begins_join, goes_on, all_go_on, is_single, unit_may_precede, units_may_precede, may_precede, all_may_precede, Reads, IsReading}
use Rattle.conf_lex.specs.Reading.{run_of, rest_of_line, unit_at, units_after, first_piece, pieces_after, pieces_of}

-- ---- tests

pub not_true : (a : Bool) → not a ≡ true → a ≡ false
not_true true e = absurd cc
not_true false e = refl

pub both : (a b : Bool) → (a && b) ≡ true → (a ≡ true) × (b ≡ true)
both true b e = (refl, e)
both false b e = absurd cc

pub no_join : (o : Option Join) → has_join o ≡ false → o ≡ None
no_join None e = refl
no_join (Some j) e = absurd cc

pub either : (a b : Bool) → (a || b) ≡ false → (a ≡ false) × (b ≡ false)
either true b e = absurd cc
either false b e = (refl, e)

pub drop_front : (xs ys : List ℕ) → drop (length xs) (xs ++ ys) ≡ ys
drop_front [] ys = refl
drop_front (x ∷ xs) ys = drop_front xs ys

-- ---- units

pub units_after-drop : (n : ℕ) (text : List ℕ) → units_after n text ≡ units_after 0 (drop n text)
unfolding units_after
units_after-drop zero text = refl
units_after-drop (suc n) [] = refl
units_after-drop (suc n) (b ∷ bs) = units_after-drop n bs

pub record IsSingle (b : ℕ) (rest : List ℕ) : Type 0 where
  pub no_close : eqb b 93 ≡ false
  pub no_newline : eqb b 10 ≡ false
  pub no_escape : (eqb b 92 && begins_with 93 rest) ≡ false
  pub no_join_at : join_at (b ∷ rest) ≡ None

pub is_single_facts : (b : ℕ) (rest : List ℕ) → is_single (b ∷ rest) ≡ true → IsSingle b rest
is_single_facts b rest e =
    let close = eqb b 93 in
    let feed_at = eqb b 10 in
    let escape = eqb b 92 && begins_with 93 rest in
    let joins = begins_join (b ∷ rest) in
    let last = either (close || feed_at || escape) joins (not_true (close || feed_at || escape || joins) e) in
    let third = either (close || feed_at) escape last.0 in
    let first = either close feed_at third.0 in
    record { no_close = first.0; no_newline = first.1; no_escape = third.1; no_join_at = no_join (join_at (b ∷ rest)) last.1 }

pub unit_at_single : (b : ℕ) (rest : List ℕ) → is_single (b ∷ rest) ≡ true → unit_at (b ∷ rest) ≡ Some (single b)
unit_at_single b rest e =
    let facts = is_single_facts b rest e in
    rw (facts.no_join_at, facts.no_escape, facts.no_close, facts.no_newline) refl

pub unit_again : (u : BracketUnit) (rest : List ℕ) → unit_may_precede u rest ≡ true → units_after 0 (unit_bytes u ++ rest) ≡ u ∷ units_after 0 rest
unfolding units_after
unit_again escaped rest e = refl
unit_again (joined feed) rest e = refl
unit_again (joined return_feed) rest e = refl
unit_again (single b) rest e = rw (unit_at_single b rest e, units_after) refl

pub units_end : (rest : List ℕ) → unit_at rest ≡ None → units_after 0 rest ≡ []
unfolding units_after
units_end [] e = refl
units_end (b ∷ bs) e = rw (e, units_after) refl

pub units_again : (us : List BracketUnit) (rest : List ℕ) → units_may_precede us rest ≡ true → units_after 0 (units_bytes us ++ rest) ≡ us ++ units_after 0 rest
units_again [] rest e = refl
units_again (u ∷ us) rest e =
    let parts = both (unit_may_precede u (units_bytes us ++ rest)) (units_may_precede us rest) e in
    ap (λ (t : List ℕ). units_after 0 t) (append_assoc (unit_bytes u) (units_bytes us) rest) ∙ unit_again u (units_bytes us ++ rest) parts.0 ∙ ap (λ (vs : List BracketUnit). u ∷ vs) (units_again us rest parts.1)

pub no_unit_at_end : (rest : List ℕ) → at_line_end rest ≡ true → unit_at rest ≡ None
no_unit_at_end [] e = refl
no_unit_at_end (b ∷ bs) e =
    let is : b ≡ 10 = eqb-true b 10 e in
    rw is refl

-- ---- runs and comments

pub run_again : (run rest : List ℕ) → all_go_on run rest ≡ true → goes_on rest ≡ false → run_of (run ++ rest) ≡ run
run_again [] [] e none = refl
run_again [] (b ∷ bs) e none = rw none refl
run_again (b ∷ bs) rest e none =
    let parts = both (goes_on (b ∷ (bs ++ rest))) (all_go_on bs rest) e in
    rw (parts.0, run_again bs rest parts.1 none) refl

pub line_again : (text rest : List ℕ) → has_byte 10 text ≡ false → at_line_end rest ≡ true → rest_of_line (text ++ rest) ≡ text
line_again [] [] e end = refl
line_again [] (b ∷ bs) e end = rw end refl
line_again (b ∷ bs) rest e end =
    let parts = either (eqb b 10) (has_byte 10 bs) e in
    rw (parts.0, line_again bs rest parts.1 end) refl

-- ---- pieces

pub pieces_after-drop : (n : ℕ) (text : List ℕ) → pieces_after n text ≡ pieces_after 0 (drop n text)
unfolding pieces_after
pieces_after-drop zero text = refl
pieces_after-drop (suc n) [] = refl
pieces_after-drop (suc n) (b ∷ bs) = pieces_after-drop n bs

from_first : (b : ℕ) (bs rest : List ℕ) (p : Piece) → first_piece (b ∷ bs) ≡ p → drop (length (piece_bytes p) - 1) bs ≡ rest
    → pieces_of (b ∷ bs) ≡ p ∷ pieces_of rest
unfolding pieces_after
from_first b bs rest p is left = rw (is, pieces_after-drop (length (piece_bytes p) - 1) bs, left) refl

three : (x y z : Bool) → (x || y || z) ≡ true → (x ≡ true) ⊎ ((y ≡ true) ⊎ (z ≡ true))
three true y z e = inl refl
three false true z e = inr (inl refl)
three false false true e = inr (inr refl)
three false false false e = absurd cc

pub white_cases : (b : ℕ) → is_white b ≡ true → (b ≡ 32) ⊎ ((b ≡ 9) ⊎ (b ≡ 13))
white_cases b e =
    elim (three (eqb b 32) (eqb b 9) (eqb b 13) e) [ inl x ↦ inl (eqb-true b 32 x) | inr r ↦ elim r [ inl x ↦ inr (inl (eqb-true b 9 x)) | inr x ↦ inr (inr (eqb-true b 13 x)) ] ]

white_again : (b : ℕ) (rest : List ℕ) → is_white b ≡ true → first_piece (b ∷ rest) ≡ white b
unfolding first_piece
white_again b rest e =
    elim (white_cases b e) [ inl x ↦ rw x refl | inr r ↦ elim r [ inl x ↦ rw x refl | inr x ↦ rw x refl ] ]

comment_again : (text rest : List ℕ) → has_byte 10 text ≡ false → at_line_end rest ≡ true → first_piece (35 ∷ (text ++ rest)) ≡ comment text
unfolding first_piece
comment_again text rest e end = ap comment (line_again text rest e end)

units_to : (us : List BracketUnit) (rest : List ℕ) → units_may_precede us rest ≡ true → unit_at rest ≡ None → units_after 0 (units_bytes us ++ rest) ≡ us
units_to us rest e none = units_again us rest e ∙ ap (λ (vs : List BracketUnit). us ++ vs) (units_end rest none) ∙ append-nil us

bracket_again : (us : List BracketUnit) (rest : List ℕ) → units_may_precede us (93 ∷ rest) ≡ true → first_piece (91 ∷ (units_bytes us ++ 93 ∷ rest)) ≡ bracket us
unfolding first_piece
bracket_again us rest e = rw (units_to us (93 ∷ rest) e refl, drop_front (units_bytes us) (93 ∷ rest)) refl

not_close : (rest : List ℕ) → at_line_end rest ≡ true → begins_with 93 rest ≡ false
not_close [] e = refl
not_close (b ∷ bs) e = rw (eqb-true b 10 e) refl

open_again : (us : List BracketUnit) (rest : List ℕ) → units_may_precede us rest ≡ true → at_line_end rest ≡ true
    → first_piece (91 ∷ (units_bytes us ++ rest)) ≡ open_bracket us
unfolding first_piece
open_again us rest e end = rw (units_to us rest e (no_unit_at_end rest end), drop_front (units_bytes us) rest, not_close rest end) refl

pub record GoesOn (b : ℕ) (rest : List ℕ) : Type 0 where
  pub no_white : is_white b ≡ false
  pub no_hash : eqb b 35 ≡ false
  pub no_newline : eqb b 10 ≡ false
  pub no_join_at : join_at (b ∷ rest) ≡ None

pub goes_on_facts : (b : ℕ) (rest : List ℕ) → goes_on (b ∷ rest) ≡ true → GoesOn b rest
goes_on_facts b rest e =
    let last = either (is_white b || eqb b 35 || eqb b 10) (begins_join (b ∷ rest)) (not_true (is_white b || eqb b 35 || eqb b 10 || begins_join (b ∷ rest)) e) in
    let third = either (is_white b || eqb b 35) (eqb b 10) last.0 in
    let first = either (is_white b) (eqb b 35) third.0 in
    record { no_white = first.0; no_hash = first.1; no_newline = third.1; no_join_at = no_join (join_at (b ∷ rest)) last.1 }

plain_again : (b : ℕ) (bs rest : List ℕ) → eqb b 91 ≡ false → all_go_on (b ∷ bs) rest ≡ true → goes_on rest ≡ false
    → first_piece (b ∷ (bs ++ rest)) ≡ plain (b ∷ bs)
unfolding first_piece
plain_again b bs rest e on end =
    let parts = both (goes_on (b ∷ (bs ++ rest))) (all_go_on bs rest) on in
    let facts = goes_on_facts b (bs ++ rest) parts.0 in
    rw (facts.no_join_at, facts.no_newline, facts.no_white, facts.no_hash, e, run_again bs rest parts.1 end) refl

pub record IsPlain (run rest : List ℕ) : Type 0 where
  pub some : at_line_end run ≡ false
  pub no_bracket : begins_with 91 run ≡ false
  pub on : all_go_on run rest ≡ true
  pub ends : goes_on rest ≡ false

pub plain_facts : (run rest : List ℕ) → may_precede (plain run) rest ≡ true → IsPlain run rest
plain_facts run rest e =
    let last = both (not (at_line_end run) && not (begins_with 91 run) && all_go_on run rest) (not (goes_on rest)) e in
    let third = both (not (at_line_end run) && not (begins_with 91 run)) (all_go_on run rest) last.0 in
    let first = both (not (at_line_end run)) (not (begins_with 91 run)) third.0 in
    record { some = not_true (at_line_end run) first.0; no_bracket = not_true (begins_with 91 run) first.1; on = third.1; ends = not_true (goes_on rest) last.1 }

-- a piece at the beginning of a text is the first of its pieces
pub piece_again : (p : Piece) (rest : List ℕ) → may_precede p rest ≡ true → pieces_of (piece_bytes p ++ rest) ≡ p ∷ pieces_of rest
piece_again newline rest e = from_first 10 rest rest newline (unfold first_piece in refl) refl
piece_again (white b) rest e = from_first b rest rest (white b) (white_again b rest e) refl
piece_again (join feed) rest e = from_first 92 (10 ∷ rest) rest (join feed) (unfold first_piece in refl) refl
piece_again (join return_feed) rest e = from_first 92 (13 ∷ 10 ∷ rest) rest (join return_feed) (unfold first_piece in refl) refl
piece_again (plain []) rest e = let facts = plain_facts [] rest e in let no : true ≡ false = facts.some in absurd cc
piece_again (plain (b ∷ bs)) rest e =
    let facts = plain_facts (b ∷ bs) rest e in
    let k : suc (length bs) - 1 ≡ length bs = omega arith in
    from_first b (bs ++ rest) rest (plain (b ∷ bs)) (plain_again b bs rest facts.no_bracket facts.on facts.ends) (rw k (drop_front bs rest))
piece_again (bracket us) rest e =
    let k : suc (length (units_bytes us ++ 93 ∷ [])) - 1 ≡ length (units_bytes us ++ 93 ∷ []) = omega arith in
    let regroup : (units_bytes us ++ 93 ∷ []) ++ rest ≡ units_bytes us ++ 93 ∷ rest = append_assoc (units_bytes us) (93 ∷ []) rest in
    from_first 91 ((units_bytes us ++ 93 ∷ []) ++ rest) rest (bracket us) (ap (λ (t : List ℕ). first_piece (91 ∷ t)) regroup ∙ bracket_again us rest e) (rw k (drop_front (units_bytes us ++ 93 ∷ []) rest))
piece_again (open_bracket us) rest e =
    let parts = both (units_may_precede us rest) (at_line_end rest) e in
    let k : suc (length (units_bytes us)) - 1 ≡ length (units_bytes us) = omega arith in
    from_first 91 (units_bytes us ++ rest) rest (open_bracket us) (open_again us rest parts.0 parts.1) (rw k (drop_front (units_bytes us) rest))
piece_again (comment text) rest e =
    let parts = both (not (has_byte 10 text)) (at_line_end rest) e in
    let k : suc (length text) - 1 ≡ length text = omega arith in
    from_first 35 (text ++ rest) rest (comment text) (comment_again text rest (not_true (has_byte 10 text) parts.0) parts.1) (rw k (drop_front text rest))

-- pieces at the beginning of a text are the first of its pieces
pub pieces_again : (ps : List Piece) (rest : List ℕ) → all_may_precede ps rest ≡ true → pieces_of (spelling ps ++ rest) ≡ ps ++ pieces_of rest
pieces_again [] rest e = refl
pieces_again (p ∷ ps) rest e =
    let parts = both (may_precede p (spelling ps ++ rest)) (all_may_precede ps rest) e in
    ap pieces_of (append_assoc (piece_bytes p) (spelling ps) rest) ∙ piece_again p (spelling ps ++ rest) parts.0 ∙ ap (λ (qs : List Piece). p ∷ qs) (pieces_again ps rest parts.1)

pub reads_pieces : (text : List ℕ) (ps : List Piece) (rest : List ℕ) → Reads text ps rest → pieces_of text ≡ ps ++ pieces_of rest
reads_pieces text ps rest r = ap pieces_of r.spelled ∙ pieces_again ps rest r.stand

none_left : pieces_of [] ≡ []
unfolding pieces_after
none_left = refl

-- a text has at most one reading
pub one_reading : (text : List ℕ) (ps : List Piece) → IsReading text ps → pieces_of text ≡ ps
one_reading text ps r = reads_pieces text ps [] r ∙ ap (λ (qs : List Piece). ps ++ qs) none_left ∙ append-nil ps
