-- What is left of a text after a line of it.
use Rattle.std.proofs.Common.{◌≡◌, ℕ, ◌+◌, Bool, true, false, eqb, List, [], ◌∷◌, ◌++◌, map, length, take, drop, Option, Some, None, refl}
use Rattle.std.proofs.Common.{sym, ◌∙◌, ap, ne_eqb, suc, if◌then◌else◌}
use Rattle.std.specs.Option.{option_map}
use Rattle.pam_base.specs.Bytes.{has_byte, IsFirstPlace}
use Rattle.pam_base.specs.Lines.{Cut, onto, cut, cut-line, cut-part}
use Rattle.report_lines.specs.Guess.{read_line}
use Rattle.report_lines.specs.Says.{Says, bare}
use Rattle.session_audit.specs.Fits.{is_none}
use Rattle.session_audit.specs.Whole.{formless}
use Rattle.session_audit.specs.declared.verdict.Verdict.{Verdict}
use Rattle.session_audit.specs.declared.verdict.Verdict.TheVariants as verdicts
use Rattle.session_audit.specs.Checked.{bare_lines, line_of}

abbrev lines_in : Cut → List (Option Says)
lines_in c = map (option_map bare) (map read_line c.lines ++ formless c.rest)

pub line_left : (rest : List ℕ) (n : ℕ) → IsFirstPlace (Some n) 10 rest
    → bare_lines rest ≡ option_map bare (read_line (take n rest)) ∷ bare_lines (drop (n + 1) rest)
line_left rest n first = ap bare_lines first.2 ∙ ap lines_in (cut-line (take n rest) (drop (n + 1) rest) first.1)

bare_formless : (part : List ℕ) → map (option_map bare) (formless part) ≡ formless part
bare_formless [] = refl
bare_formless (b ∷ part) = refl

pub part_left : (rest : List ℕ) → has_byte 10 rest ≡ false → bare_lines rest ≡ formless rest
part_left rest none = ap lines_in (cut-part rest none) ∙ bare_formless rest

past : (n : ℕ) → false ≡ eqb (suc n) 0
past n = sym (ne_eqb (suc n) 0 (λ e. absurd (cc)))

-- nothing is left exactly at the text's end
some_onto : (b : ℕ) (lines : List (List ℕ)) (rest : List ℕ) → is_none (lines_in (onto b lines rest)) ≡ false
some_onto b [] rest = refl
some_onto b (l ∷ lines) rest = refl

some_cut : (b : ℕ) (c : Cut) (x : Bool) → is_none (lines_in (if x then record { lines = [] ∷ c.lines; rest = c.rest } else onto b c.lines c.rest)) ≡ false
some_cut b c true = refl
some_cut b c false = some_onto b c.lines c.rest

pub end_is : (rest : List ℕ) → is_none (bare_lines rest) ≡ eqb (length rest) 0
unfolding cut
end_is [] = refl
end_is (b ∷ rest) = some_cut b (cut rest) (eqb b 10) ∙ past (length rest)

pub none_is : (rest : List ℕ) → is_none rest ≡ eqb (length rest) 0
none_is [] = refl
none_is (b ∷ rest) = past (length rest)

-- ---- a verdict names a line if and only if it isn't that all fits

pub fits_names : (v : Verdict) → v ≡ verdicts.Fits → line_of v ≡ None
fits_names v is = ap line_of is

pub named_fits : (v : Verdict) → line_of v ≡ None → v ≡ verdicts.Fits
named_fits verdicts.Fits is = refl
named_fits (verdicts.Differs line) is = absurd (cc)
