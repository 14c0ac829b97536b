-- What follows some bytes can be left out from the first NUL byte on.
use Rattle.std.proofs.Common.{◌≡◌, ℕ, zero, suc, ◌+◌, ◌-◌, ◌≤◌, ◌<◌, ◌^◌, true, false, eqb, List, [], ◌∷◌, ◌++◌, length, take, drop, Some, None, get_or, refl, sym, ap, ◌∙◌, arith, inl, inr}
use Rattle.std.proofs.lemmas.Bool.{eqb-true}
use Rattle.std.proofs.lemmas.List.Sums.{count_by-le-length}
use Rattle.pam_base.specs.Bytes.{has_byte, IsFirstPlace}
use Rattle.conf_lex.specs.Rules.{newlines}
use Rattle.conf_lex.specs.declared.lexer.Lexer.{Lexer}
use Rattle.conf_lex.specs.Lexing.{before_nul, nul_line}
use Rattle.conf_lex.specs.Moving.{Moves}
use Rattle.conf_lex.proofs.Every.{which}
use Rattle.conf_lex.specs.Piece.{join_at, at_line_end, begins_with}
use Rattle.conf_lex.specs.Reading.{run_of, rest_of_line}
use Rattle.conf_lex.specs.Lexing.{is_bracket_end, is_escape, begins_white}
use Rattle.conf_lex.proofs.Once.{both, either, white_cases}
use Rattle.conf_lex.proofs.TextUnitFacts.{newlines-append, no_newline}
use Rattle.conf_lex.proofs.TakingPieces.{run_front, run_on, run_newlines, no_newlines}

pub before_drop : (n : ℕ) (t : List ℕ) → n ≤ length (before_nul t) → before_nul (drop n t) ≡ drop n (before_nul t)
before_drop zero t e = refl
before_drop (suc n) [] e = refl
before_drop (suc n) (b ∷ bs) e =
    elim (which (eqb b 0)) [
      | inl y ↦ let no : suc n ≤ 0 = rw y at e in absurd (omega arith)
      | inr z ↦ let less : suc n ≤ suc (length (before_nul bs)) = rw z at e in rw z (before_drop n bs (omega arith))
    ]

pub nul_drop : (m n : ℕ) (t : List ℕ) → n ≤ length (before_nul t) → nul_line (m + newlines (take n (before_nul t))) (drop n t) ≡ nul_line m t
nul_drop m zero t e = ap (λ (k : ℕ). nul_line k t) (omega arith)
nul_drop m (suc n) [] e = refl
nul_drop m (suc n) (b ∷ bs) e =
    elim (which (eqb b 0)) [
      | inl y ↦ let no : suc n ≤ 0 = rw y at e in absurd (omega arith)
      | inr z ↦
          let less : suc n ≤ suc (length (before_nul bs)) = rw z at e in
          let lines : m + newlines (b ∷ take n (before_nul bs)) ≡ (m + newlines (b ∷ [])) + newlines (take n (before_nul bs)) = omega (arith, newlines-append (b ∷ []) (take n (before_nul bs))) in
          rw z (ap (λ (k : ℕ). nul_line k (drop n bs)) lines ∙ nul_drop (m + newlines (b ∷ [])) n bs (omega arith))
    ]

pub before_short : (t : List ℕ) → length (before_nul t) ≤ length t
before_short [] = omega arith
before_short (b ∷ bs) = elim (which (eqb b 0)) [ inl y ↦ rw y (omega arith) | inr z ↦ rw z (omega (arith, before_short bs)) ]

pub moves_on : (old mid new : Lexer) → Moves old mid → Moves mid new → Moves old new
moves_on old mid new a b = record { nul = b.nul ∙ a.nul; nul_kept = omega (arith, a.nul_kept, b.nul_kept) }

drop_length : (n : ℕ) (t : List ℕ) → n ≤ length t → length (drop n t) + n ≡ length t
drop_length zero t e = omega arith
drop_length (suc n) [] e = absurd (omega arith)
drop_length (suc n) (b ∷ bs) e = omega (arith, drop_length n bs (omega arith))

take_whole : (k : ℕ) (t : List ℕ) → length t ≤ k → take k t ≡ t
take_whole zero [] e = refl
take_whole (suc k) [] e = refl
take_whole zero (b ∷ bs) e = absurd (omega arith)
take_whole (suc k) (b ∷ bs) e = ap (λ (l : List ℕ). b ∷ l) (take_whole k bs (omega arith))

pub take_length : (n : ℕ) (t : List ℕ) → n ≤ length t → n ≡ length (take n t)
take_length zero t e = refl
take_length (suc n) [] e = absurd (omega arith)
take_length (suc n) (b ∷ bs) e = omega (arith, take_length n bs (omega arith))

pub rest_is : (n : ℕ) (t : List ℕ) → n ≤ length (before_nul t) → take (length t - n) (drop n t) ≡ drop n t
rest_is n t e = take_whole (length t - n) (drop n t) (omega (arith, drop_length n t (omega (arith, before_short t))))

pub lines_most : (n : ℕ) (t : List ℕ) → n ≤ length (before_nul t) → newlines (take n (before_nul t)) ≤ n
lines_most n t e = omega (arith, count_by-le-length (λ b. eqb b 10) (take n (before_nul t)), take_length n (before_nul t) e)

-- n bytes were skipped, which contain this many newlines
module _ (n lines : ℕ) (t rest : List ℕ) (m : ℕ) (e : n ≤ length (before_nul t)) (is : lines ≡ newlines (take n (before_nul t))) (to : rest ≡ drop n t) where
  left : length rest + n ≡ length t
  left = ap (λ (s : List ℕ). length s + n) to ∙ drop_length n t (omega (arith, e, before_short t))

  left_before : length (before_nul rest) + n ≡ length (before_nul t)
  left_before = ap (λ (s : List ℕ). length (before_nul s) + n) to ∙ (ap (λ (s : List ℕ). length s + n) (before_drop n t e) ∙ drop_length n (before_nul t) e)

  pub skip_fits : m + length t < 2 ^ 32 → m + lines + length rest < 2 ^ 32
  skip_fits fits = omega (arith, fits, left, is, lines_most n t e)

  pub skip_nul : nul_line (m + lines) rest ≡ nul_line m t
  skip_nul = ap (λ (k : ℕ). nul_line (m + k) rest) is ∙ (ap (nul_line (m + newlines (take n (before_nul t)))) to ∙ nul_drop m n t e)

  pub skip_keeps : length rest + length (before_nul t) ≡ length t + length (before_nul rest)
  skip_keeps = omega (arith, left, left_before)

-- ---- how a text begins

pub before_take : (n : ℕ) (t : List ℕ) → n ≤ length (before_nul t) → take n t ≡ take n (before_nul t)
before_take zero t e = refl
before_take (suc n) [] e = refl
before_take (suc n) (b ∷ bs) e =
    elim (which (eqb b 0)) [
      | inl y ↦ let no : suc n ≤ 0 = rw y at e in absurd (omega arith)
      | inr z ↦ let less : suc n ≤ suc (length (before_nul bs)) = rw z at e in rw z (ap (λ (l : List ℕ). b ∷ l) (before_take n bs (omega arith)))
    ]

pub front_before : (t : List ℕ) → at_line_end (before_nul t) ≡ false → get_or (before_nul t) 0 0 ≡ get_or t 0 0
front_before [] e = refl
front_before (b ∷ bs) e = elim (which (eqb b 0)) [ inl y ↦ let no : true ≡ false = rw y at e in absurd cc | inr z ↦ rw z refl ]

pub one_within : (t : List ℕ) → at_line_end t ≡ false → 1 ≤ length t
one_within [] e = absurd cc
one_within (b ∷ bs) e = omega arith

pub one_lines : (t : List ℕ) → at_line_end t ≡ false → 0 ≡ newlines (take 1 t)
one_lines [] e = refl
one_lines (b ∷ bs) e = sym (no_newline b e)

pub unit_on : (t : List ℕ) → is_bracket_end t ≡ false → at_line_end t ≡ false
unit_on [] e = absurd cc
unit_on (b ∷ bs) e = (either (eqb b 93) (eqb b 10) e).1

pub begins_on : (t : List ℕ) → begins_with 91 t ≡ true → at_line_end t ≡ false
begins_on [] e = absurd cc
begins_on (b ∷ bs) e = rw (eqb-true b 91 e) refl

pub white_on : (t : List ℕ) → begins_white t ≡ true → at_line_end t ≡ false
white_on [] e = absurd cc
white_on (b ∷ bs) e = elim (white_cases b e) [ inl x ↦ rw x refl | inr r ↦ elim r [ inl x ↦ rw x refl | inr x ↦ rw x refl ] ]

pub escape_within : (t : List ℕ) → is_escape t ≡ true → 2 ≤ length t
escape_within [] e = absurd cc
escape_within (b ∷ []) e = let parts = both (eqb b 92) false e in absurd cc
escape_within (b ∷ c ∷ bs) e = omega arith

pub escape_lines : (t : List ℕ) → is_escape t ≡ true → 0 ≡ newlines (take 2 t)
escape_lines [] e = refl
escape_lines (b ∷ []) e = let parts = both (eqb b 92) false e in absurd cc
escape_lines (b ∷ c ∷ bs) e = let parts = both (eqb b 92) (eqb c 93) e in rw (eqb-true b 92 parts.0, eqb-true c 93 parts.1) refl

-- ---- runs and comments

pub run_lines : (t : List ℕ) → 0 ≡ newlines (take (length (run_of t)) t)
run_lines t = sym (run_newlines (run_of t) (drop (length (run_of t)) t) (run_on t)) ∙ ap newlines (sym (run_front t))

pub line_fits : (t : List ℕ) → length (rest_of_line t) ≤ length t
line_fits [] = omega arith
line_fits (b ∷ bs) = elim (which (eqb b 10)) [ inl y ↦ rw y (omega arith) | inr z ↦ rw z (omega (arith, line_fits bs)) ]

pub line_one : (t : List ℕ) → has_byte 10 (take (length (rest_of_line t)) t) ≡ false
line_one [] = refl
line_one (b ∷ bs) = elim (which (eqb b 10)) [ inl y ↦ rw y refl | inr z ↦ rw (z, z, line_one bs) refl ]

pub line_ends : (t : List ℕ) → at_line_end (drop (length (rest_of_line t)) t) ≡ true
line_ends [] = refl
line_ends (b ∷ bs) = elim (which (eqb b 10)) [ inl y ↦ rw y y | inr z ↦ rw z (line_ends bs) ]

pub line_lines : (t : List ℕ) → 0 ≡ newlines (take (length (rest_of_line t)) t)
line_lines t = sym (no_newlines (take (length (rest_of_line t)) t) (line_one t))

-- ---- a NUL byte isn't part of a join or an escape

pub join_before : (t : List ℕ) → join_at (before_nul t) ≡ join_at t
join_before [] = refl
join_before (b ∷ []) = elim (which (eqb b 0)) [ inl y ↦ rw (eqb-true b 0 y) refl | inr z ↦ rw z refl ]
join_before (b ∷ c ∷ []) =
    elim (which (eqb b 0)) [
      | inl y ↦ rw (eqb-true b 0 y) refl
      | inr z ↦ rw z (elim (which (eqb c 0)) [ inl y ↦ rw (eqb-true c 0 y) refl | inr w ↦ rw w refl ])
    ]
join_before (b ∷ c ∷ d ∷ bs) =
    elim (which (eqb b 0)) [
      | inl y ↦ rw (eqb-true b 0 y) refl
      | inr z ↦ rw z (elim (which (eqb c 0)) [
        | inl y ↦ rw (eqb-true c 0 y) refl
        | inr w ↦ rw w (elim (which (eqb d 0)) [ inl y ↦ rw (eqb-true d 0 y) refl | inr x ↦ rw x refl ])
      ])
    ]

pub escape_before : (t : List ℕ) → is_escape (before_nul t) ≡ is_escape t
escape_before [] = refl
escape_before (b ∷ []) = elim (which (eqb b 0)) [ inl y ↦ rw (eqb-true b 0 y) refl | inr z ↦ rw z refl ]
escape_before (b ∷ c ∷ bs) =
    elim (which (eqb b 0)) [
      | inl y ↦ rw (eqb-true b 0 y) refl
      | inr z ↦ rw z (elim (which (eqb c 0)) [ inl y ↦ rw (eqb-true c 0 y) refl | inr w ↦ rw w refl ])
    ]

-- ---- the first NUL byte

pub nul_none : (n : ℕ) (t : List ℕ) → None ≡ nul_line n t → has_byte 0 t ≡ false
nul_none n [] e = refl
nul_none n (b ∷ bs) e =
    elim (which (eqb b 0)) [
      | inl y ↦ let no : None ≡ Some n = rw y at e in absurd cc
      | inr z ↦ rw z (nul_none (n + newlines (b ∷ [])) bs (rw z at e))
    ]

pub before_whole : (t : List ℕ) → has_byte 0 t ≡ false → before_nul t ≡ t
before_whole [] e = refl
before_whole (b ∷ bs) e =
    let parts = either (eqb b 0) (has_byte 0 bs) e in
    rw parts.0 (ap (λ (l : List ℕ). b ∷ l) (before_whole bs parts.1))

-- where it is
pub record NulPlace (n line : ℕ) (t : List ℕ) : Type 0 where
  pub place : ℕ
  pub first : IsFirstPlace (Some place) 0 t
  pub line_is : line ≡ n + newlines (take place t)

first_after : (b place : ℕ) (bs : List ℕ) → eqb b 0 ≡ false → IsFirstPlace (Some place) 0 bs → IsFirstPlace (Some (suc place)) 0 (b ∷ bs)
first_after b place bs z at =
    let next : suc (place + 1) ≡ suc place + 1 = omega arith in
    (omega (arith, at.0), rw (z, at.1) refl, ap (λ (l : List ℕ). b ∷ l) at.2 ∙ ap (λ (k : ℕ). b ∷ (take place bs ++ 0 ∷ drop k (b ∷ bs))) next)

pub nul_place : (n : ℕ) (t : List ℕ) (line : ℕ) → Some line ≡ nul_line n t → NulPlace n line t
nul_place n [] line e = absurd cc
nul_place n (b ∷ bs) line e =
    elim (which (eqb b 0)) [
      | inl y ↦
          let is : Some line ≡ Some n = rw y at e in
          let same : line ≡ n = cc in
          record { place = 0; first = (omega arith, refl, ap (λ (x : ℕ). x ∷ bs) (eqb-true b 0 y)); line_is = omega (arith, same) }
      | inr z ↦
          let more = nul_place (n + newlines (b ∷ [])) bs line (rw z at e) in
          record {
            place = suc more.place;
            first = first_after b more.place bs z more.first;
            line_is = omega (arith, more.line_is, newlines-append (b ∷ []) (take more.place bs));
          }
    ]
