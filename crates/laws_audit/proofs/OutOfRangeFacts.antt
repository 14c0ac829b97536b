-- Values out of their types' ranges are printed by their remainders.
use Rattle.std.proofs.Common.{◌≡◌, ℕ, ◌%◌, ◌-◌, ◌^◌, List, [], ◌∷◌, ◌++◌, length, false, refl, ◌∙◌, ap, arith}
use Rattle.std.specs.Prelude.{replicate}
use Rattle.std.specs.Fmt.{decimal, digits}
use Rattle.std.proofs.Math.Nat.{mod-eq_of_lt}
use Rattle.std.proofs.lemmas.Nat.{mod_below}
use Rattle.pam_base.specs.Quote.{quoted_byte, quoted_text}
use Rattle.report_lines.specs.Line.{bytes_of}
use Rattle.laws_audit.specs.Ranges.{ByRemainders}

quoted_is : (text : List ℕ) → quoted_text (bytes_of text) ≡ quoted_text text
quoted_is [] = refl
quoted_is (b ∷ text) =
    ap (λ (c : ℕ). quoted_byte c ++ quoted_text (bytes_of text)) (mod-eq_of_lt (mod_below b 256 (omega arith)))
    ∙ ap (λ (t : List ℕ). quoted_byte (b % 256) ++ t) (quoted_is text)

pub by_remainders : ByRemainders
by_remainders = record {
  quoted = quoted_is;
  long = λ n. ap decimal (mod-eq_of_lt (mod_below n (2 ^ 64) (omega arith)));
  status = λ n. ap (λ (m : ℕ). replicate (8 - length (digits 16 false m)) 48 ++ digits 16 false m) (mod-eq_of_lt (mod_below n (2 ^ 32) (omega arith)));
}
