-- Taking units and pieces from the beginning of a text.
use Rattle.std.proofs.Common.{◌≡◌, ℕ, ◌+◌, ◌<◌, ◌≤◌, Bool, true, false, cond, eqb, List, [], ◌∷◌, ◌++◌, length, drop, get_or, None, refl, sym, ap, ◌∙◌, arith, append_assoc, append-nil, length-append}
use Rattle.std.proofs.lemmas.Grind.{flat_map-append}
use Rattle.std.proofs.lemmas.List.Sums.{count_by-le-length, sum_by-append}
use Rattle.conf_lex.specs.Piece.{Join, feed, return_feed, join_bytes, join_at, BracketUnit, joined, single, unit_bytes, unit_text, units_bytes, units_text, units_may_precede, unit_may_precede, goes_on}
use Rattle.conf_lex.specs.Reading.{run_of}
use Rattle.conf_lex.specs.Rules.{newlines}
use Rattle.conf_lex.specs.Lexing.{is_bracket_end, is_escape, TakesJoin, UnitTaken, TakesUnits}
use Rattle.conf_lex.proofs.Once.{both, either}
use Rattle.conf_lex.proofs.Every.{is_single_by, and_true}

-- ---- newlines

pub newlines-append : (s t : List ℕ) → newlines (s ++ t) ≡ newlines s + newlines t
newlines-append s t = sum_by-append (λ b. cond (eqb b 10) 1 0) s t

pub join_newline : (j : Join) → newlines (join_bytes j) ≡ 1
join_newline feed = refl
join_newline return_feed = refl

pub no_newline : (b : ℕ) → eqb b 10 ≡ false → newlines (b ∷ []) ≡ 0
no_newline b e = rw e refl

-- ---- units

pub joined_unit : (taken : Bool) (before after : List ℕ) (m n : ℕ) → TakesJoin taken before after m n → taken ≡ true → UnitTaken 32 before after m n
joined_unit false before after m n t e = absurd cc
joined_unit true before after m n t e = record { unit = joined t.0; spelled = t.1; stand = refl; gives = refl; lines = t.2 ∙ ap (λ k. m + k) (sym (join_newline t.0)) }

single_unit : (text : List ℕ) (m : ℕ) → join_at text ≡ None → is_bracket_end text ≡ false → is_escape text ≡ false
    → UnitTaken (get_or text 0 0) text (drop 1 text) m m
single_unit [] m none no_end no_escape = absurd cc
single_unit (b ∷ bs) m none no_end no_escape =
    let ends = either (eqb b 93) (eqb b 10) no_end in
    let lines : m ≡ m + newlines (b ∷ []) = omega (arith, no_newline b ends.1) in
    record { unit = single b; spelled = refl; stand = is_single_by b bs none no_escape ends.0 ends.1; gives = refl; lines = lines }

pub alone_unit : (taken : Bool) (before mid after : List ℕ) (m k n : ℕ) → TakesJoin taken before mid m k → taken ≡ false → is_bracket_end mid ≡ false
    → is_escape mid ≡ false → after ≡ drop 1 mid → n ≡ k → UnitTaken (get_or mid 0 0) before after m n
alone_unit true before mid after m k n t e no_end no_escape rest line = absurd cc
alone_unit false before mid after m k n t e no_end no_escape rest line =
    let one = single_unit mid k (ap join_at t.1 ∙ t.0) no_end no_escape in
    record { unit = one.unit; spelled = sym t.1 ∙ one.spelled ∙ ap (λ (s : List ℕ). unit_bytes one.unit ++ s) (sym rest); stand = ap (unit_may_precede one.unit) rest ∙ one.stand; gives = one.gives; lines = line ∙ one.lines ∙ ap (λ (i : ℕ). i + newlines (unit_bytes one.unit)) t.2 }

pub no_units : (text : List ℕ) (m : ℕ) → TakesUnits [] text text m m
no_units text m = record { units = []; spelled = refl; stand = refl; gives = refl; lines = omega arith }

-- the bytes of units with one more
pushed : (us : List BracketUnit) (u : BracketUnit) (rest : List ℕ) → units_bytes (us ++ u ∷ []) ++ rest ≡ units_bytes us ++ (unit_bytes u ++ rest)
pushed us u rest = rw (flat_map-append unit_bytes us (u ∷ []), append-nil (unit_bytes u)) (append_assoc (units_bytes us) (unit_bytes u) rest)

text_pushed : (us : List BracketUnit) (u : BracketUnit) (text : List ℕ) (byte : ℕ) → text ≡ units_text us → unit_text u ≡ byte ∷ []
    → text ++ byte ∷ [] ≡ units_text (us ++ u ∷ [])
text_pushed us u text byte e f = rw (flat_map-append unit_text us (u ∷ []), append-nil (unit_text u), e, f) refl

lines_pushed : (us : List BracketUnit) (u : BracketUnit) (m k n : ℕ) → k ≡ m + newlines (units_bytes us) → n ≡ k + newlines (unit_bytes u)
    → n ≡ m + newlines (units_bytes (us ++ u ∷ []))
lines_pushed us u m k n e f =
    let bytes : units_bytes (us ++ u ∷ []) ≡ units_bytes us ++ unit_bytes u = rw (flat_map-append unit_bytes us (u ∷ []), append-nil (unit_bytes u)) refl in
    rw bytes (omega (arith, newlines-append (units_bytes us) (unit_bytes u)))

units_may_precede-push : (us : List BracketUnit) (u : BracketUnit) (rest : List ℕ) → units_may_precede us (unit_bytes u ++ rest) ≡ true
    → unit_may_precede u rest ≡ true → units_may_precede (us ++ u ∷ []) rest ≡ true
units_may_precede-push [] u rest e f = rw f refl
units_may_precede-push (v ∷ us) u rest e f =
    let parts = both (unit_may_precede v (units_bytes us ++ (unit_bytes u ++ rest))) (units_may_precede us (unit_bytes u ++ rest)) e in
    and_true _ _ (ap (unit_may_precede v) (pushed us u rest) ∙ parts.0) (units_may_precede-push us u rest parts.1 f)

pub push_unit : (text before mid after : List ℕ) (byte m k n : ℕ) → TakesUnits text before mid m k → UnitTaken byte mid after k n
    → TakesUnits (text ++ byte ∷ []) before after m n
push_unit text before mid after byte m k n us u = record {
  units = us.units ++ u.unit ∷ [];
  spelled = us.spelled ∙ ap (λ (s : List ℕ). units_bytes us.units ++ s) u.spelled ∙ sym (pushed us.units u.unit after);
  stand = units_may_precede-push us.units u.unit after (ap (units_may_precede us.units) (sym u.spelled) ∙ us.stand) u.stand;
  gives = text_pushed us.units u.unit text byte us.gives u.gives;
  lines = lines_pushed us.units u.unit m k n us.lines u.lines;
}

-- no more newlines than bytes
pub fits_more : (m n : ℕ) (front before after : List ℕ) → before ≡ front ++ after → n ≡ m + newlines front → n + length after ≤ m + length before
fits_more m n front before after spelled lines = omega (arith, count_by-le-length (λ b. eqb b 10) front, ap length spelled, length-append front after)

-- ---- runs

pub run_step : (text : List ℕ) → goes_on text ≡ true → length (run_of text) ≡ length (run_of (drop 1 text)) + 1
run_step [] e = absurd cc
run_step (b ∷ bs) e = rw e (omega arith)

pub run_stop : (text : List ℕ) → goes_on text ≡ false → length (run_of text) ≡ 0
run_stop [] e = refl
run_stop (b ∷ bs) e = rw e refl

pub run_some : (text : List ℕ) → goes_on text ≡ true → 0 < length text
run_some [] e = absurd cc
run_some (b ∷ bs) e = omega arith
