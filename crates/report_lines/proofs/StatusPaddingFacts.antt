-- A status is written as the format of eight hexadecimal digits has it.
use Rattle.std.proofs.Common.{◌≡◌, ℕ, ◌^◌, ◌-◌, ◌<◌, ◌++◌, sym, ◌∙◌, ap, List, length, false, [], arith}
use Rattle.std.specs.Prelude.{replicate}
use Rattle.std.specs.Fmt.{digits, padded_integral, format_spec, char_count}
use Rattle.std.proofs.Math.Nat.{mod-eq_of_lt}
use Rattle.std.proofs.lemmas.Grind.{common_steps}
use Rattle.report_lines.specs.Line.{status_words}

pub numeral_is_padded : (numeral : List ℕ) → padded_integral (format_spec 32 0 4 8 (2 ^ 64 - 1)) false [] numeral ≡ replicate (8 - length numeral) 48 ++ numeral
unfolding padded_integral char_count
numeral_is_padded numeral = grind (arith, common_steps)

pub status_is_padded : (status : ℕ) → status < 2 ^ 32
    → padded_integral (format_spec 32 0 4 8 (2 ^ 64 - 1)) false [] (digits 16 false status) ≡ status_words status
status_is_padded status small =
    numeral_is_padded (digits 16 false status) ∙ ap (λ (n : ℕ). replicate (8 - length (digits 16 false n)) 48 ++ digits 16 false n) (sym (mod-eq_of_lt small))
