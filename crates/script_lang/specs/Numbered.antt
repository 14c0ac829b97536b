-- The number of a transaction in a line of the script (this project's own).
use Rattle.std.specs.Prelude.{◌≡◌, ◌<◌, ◌^◌, ℕ, List, Ok}
use Rattle.pam_base.specs.declared.call.Step.{Step as Asked}
use Rattle.script_lang.specs.declared.line.Line.TheVariants.{Step}
use Rattle.script_lang.specs.Line.{parsed}

-- it has 32 bits
abbrev pub ReadsNumbers : Type 0
ReadsNumbers = (line : List ℕ) (step : Asked) → parsed line ≡ Ok (Step step) → step.number < 2 ^ 32
