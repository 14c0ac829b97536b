-- Which ends a run makes, with real objects too (this project's own).
use Rattle.std.specs.Prelude.{◌≡◌, ◌⊎◌, ℕ, Bool, List, [], ◌∷◌, ◌++◌, IsTrue, Ok}
use Rattle.pam_base.specs.Code.{number_of}
use Rattle.pam_base.specs.Lines.{lines_of}
use Rattle.pam_base.specs.declared.code.Code.{Code}
use Rattle.pam_base.specs.declared.call.AppCall.TheVariants.{End}
use Rattle.pam_base.specs.declared.call.Step.{Step as Asked}
use Rattle.data_cleanup.specs.Due.{Event, birth, ends}
use Rattle.script_lang.specs.declared.line.Line.TheVariants.{Step}
use Rattle.script_lang.specs.Line.{parsed}
use Rattle.record_reader.specs.LineTurns.{Ending}
use Rattle.record_reader.specs.declared.ending.Stop.{Stop}
use Rattle.cmd_run.specs.Endings.{ending_status, stop_status}

-- ---- by a line of the script

-- a step ends the transaction of this number with this status
abbrev pub IsEndStep : Asked → ℕ → ℕ → Type 0
IsEndStep step number status = step ≡ record { number = number; call = End status }

-- a line asks for the end of the transaction of this number, with this status
abbrev pub AsksEnd : List ℕ → ℕ → ℕ → Type 0
AsksEnd line number status = parsed line ≡ Ok (Step (record { number = number; call = End status }))

-- one of the lines of a text asks for it
pub record HasEnd (text : List ℕ) (number status : ℕ) : Type 0 where
  pub line : List ℕ
  pub before : List (List ℕ)
  pub followed : List (List ℕ)
  pub among : lines_of text ≡ before ++ line ∷ followed
  pub asks : AsksEnd line number status

-- ---- after the lines

abbrev pub IsStatusOf : Code → ℕ → ℕ → Type 0
IsStatusOf code number status = status ≡ number_of code

-- a status with which a run ends the transactions that are open after its lines
abbrev pub IsClosingStatus : ℕ → Type 0
IsClosingStatus status = ((ending : Ending) × (status ≡ number_of (ending_status ending)))
    ⊎ ((stop : Stop) × (status ≡ number_of (stop_status stop)))

-- ---- all ends

-- an end of a run of a script: if its text is modelled, one of its lines asks for it, or it was made after them
abbrev pub IsEndOfRun : Bool → List ℕ → ℕ → ℕ → Type 0
IsEndOfRun tells text number status = IsTrue tells → IsClosingStatus status
    ⊎ HasEnd text number status

-- each end among some events is one of these
abbrev pub EndsAre : (ℕ → ℕ → Type 0) → List Event → Type 0
EndsAre Is [] = Unit {0}
EndsAre Is (birth b ∷ events) = EndsAre Is events
EndsAre Is (ends number status ∷ events) = Is number status × EndsAre Is events
