-- What a line of a report says, and what a reader of lines is (this project's own).
use Rattle.std.specs.Prelude.{◌≡◌, ℕ, ◌<◌, ◌^◌, false, List, [], ◌∷◌, ◌++◌, Option, Some, None}
use Rattle.pam_base.specs.declared.code.Code.TheVariants as codes
use Rattle.pam_base.specs.declared.fault.FaultKind.TheVariants.{OpenBracket}
use Rattle.pam_base.specs.Bytes.{has_byte}
use Rattle.service_load.specs.FirstFault.{fault_at}
use Rattle.report_lines.specs.Line.{ToldLine, told_visit, told_missing, Shown, shows_fault, shows_value, shows_count, Result, answered, closed_by_program, Last, unread, told_text, result_text, last_text, IsTold, IsResult, IsLast}

pub data Says : Type 0 where
  tells : ℕ → ToldLine → Says
  results : ℕ → Result → Says
  lasts : Last → Says

-- the text of a line, with its newline
abbrev pub says_text : Says → List ℕ
says_text (tells number t) = told_text number t
says_text (results number result) = result_text number result
says_text (lasts last) = last_text (Some last)

-- in the ranges of its values
abbrev pub IsSays : Says → Type 0
IsSays (tells number t) = (number < 2 ^ 32) × IsTold t
IsSays (results number result) = (number < 2 ^ 32) × IsResult result
IsSays (lasts last) = IsLast (Some last)

-- ---- the part of a line that counts: all except contents whose format alone is checked

abbrev pub bare_told : ToldLine → ToldLine
bare_told (told_visit v) = told_visit v
bare_told t = told_missing []

abbrev pub bare_shown : Shown → Shown
bare_shown (shows_fault fault) = shows_fault (fault_at [] 0 OpenBracket)
bare_shown (shows_value value) = shows_value None
bare_shown (shows_count n) = shows_count 0
bare_shown shown = shown

abbrev pub bare_result : Result → Result
bare_result (answered command shown) = answered command (bare_shown shown)
bare_result (closed_by_program code) = closed_by_program codes.Success

abbrev pub bare : Says → Says
bare (tells number t) = tells number (bare_told t)
bare (results number result) = results number (bare_result result)
bare (lasts last) = lasts unread

-- ---- readers of lines

-- a form's text is one line
pub record IsLine (s : Says) : Type 0 where
  pub line : List ℕ
  pub is : says_text s ≡ line ++ 10 ∷ []
  pub one : has_byte 10 line ≡ false

-- the part of a line that counts is read from it
pub record ReadAs (read : Option Says) (s : Says) : Type 0 where
  pub found : Says
  pub is : read ≡ Some found
  pub same : bare found ≡ bare s

-- A reader returns a form that is printed as the line, in the ranges of its values, if there is
-- one; if there are several, any of them.
pub record ReadsLines (read : List ℕ → Option Says) : Type 0 where
  pub sound : (line : List ℕ) (s : Says) → read line ≡ Some s → (says_text s ≡ line ++ 10 ∷ [])
      × IsSays s
  pub complete : (line : List ℕ) (s : Says) → says_text s ≡ line ++ 10 ∷ [] → IsSays s →
      ReadAs (read line) s
  pub lines : (s : Says) → IsSays s → IsLine s
