-- A run of a script: the steps of its lines, one after the other, whatever a step is (this project's own).
use Rattle.std.specs.Prelude.{ℕ, Bool, List, length, Result, Err, nat_le, nat_lt, if◌then◌else◌}
use Rattle.pam_base.specs.declared.fault.ScriptKind.{ScriptKind}
use Rattle.pam_base.specs.declared.fault.ScriptKind.TheVariants.{LineTooLong, TooManyLines}
use Rattle.record_reader.specs.Run as items
use Rattle.record_reader.specs.Looked.{held_limit, looked}

-- what a line after n others, without its newline, does to a state: the state after it and the text that is written for
-- it, or why it is refused
abbrev pub LineStep : Type 0 → Type 0
LineStep State = ℕ → State → List ℕ → Result (State × List ℕ) ScriptKind

-- A line that has n lines before it. Line 65,537 is refused, and so is a line of more than `held_limit` bytes,
-- whatever it ends with; one of exactly that many bytes may end with a carriage return, and the
-- step decides about it.
unfoldable pub step_at : {State : Type 0} → LineStep State → ℕ → State → List ℕ
    → Result (State × List ℕ) ScriptKind
step_at step n s line =
    if nat_le 65536 n then Err TooManyLines
    else if nat_lt held_limit (length line) then Err LineTooLong
    else step n s line

-- the result of lines
abbrev pub Run : Type 0 → Type 0
Run State = items.Run State ScriptKind

-- the fold of the steps over lines that have n lines before them
abbrev pub run_lines : {State : Type 0} → LineStep State → ℕ → State → List (List ℕ) → Run State
run_lines step n s lines = items.run_items (step_at step) n s lines

-- the result of bytes after n lines; `ended` says that the input ends after them
abbrev pub run_of : {State : Type 0} → LineStep State → ℕ → State → List ℕ → Bool → Run State
run_of step n s bytes ended = items.run_of looked (step_at step) n s bytes ended
