-- What the checker holds while it reads a report, in terms of transactions and blocks (this
-- project's own).
use Rattle.std.specs.Prelude.{◌≡◌, ◌≤◌, ℕ, ◌+◌, Bool, true, false, ◌&&◌, List, ◌∷◌, map, length, Option, Some, None}
use Rattle.std.specs.Option.{option_map}
use Rattle.pam_base.specs.declared.code.Code.{Code}
use Rattle.pam_base.specs.declared.call.Func.{Func}
use Rattle.service_load.specs.Stacks.{Stacks}
use Rattle.pass_replay.specs.dispatch_core.specs.Calls.{Held}
use Rattle.pass_replay.specs.Held.{held_of}
use Rattle.handler_chain.specs.declared.seen.RecordedLine.{RecordedLine}
use Rattle.report_lines.specs.Line.{ToldLine, Command, runs, Shown, shows_code, shows_pending, Result, answered, closed_by_program, Block}
use Rattle.report_lines.specs.Form.{told_of}
use Rattle.report_lines.specs.Guess.{read_line}
use Rattle.report_lines.specs.Says.{Says, bare}
use Rattle.session_audit.specs.declared.place.SlotLog as held
use Rattle.session_audit.specs.declared.place.SlotLog.TheVariants as helds
use Rattle.session_audit.specs.declared.checker.Begun.{Begun}
use Rattle.session_audit.specs.declared.checker.Checker.{Checker}
use Rattle.session_audit.specs.declared.judge.StackCall.{StackCall}
use Rattle.session_audit.specs.declared.judge.Judged.{Judged}
use Rattle.session_audit.specs.declared.judge.Judged.TheVariants as judged
use Rattle.session_audit.specs.declared.verdict.Verdict.{Verdict}
use Rattle.session_audit.specs.declared.verdict.Verdict.TheVariants as verdicts
use Rattle.session_audit.specs.Fits.{SlotLog, shut, running, place_at, visits_told, is_none, is_bad_number, only_if, aborted_by, at_shut, at_running, after_result, after_block}
use Rattle.session_audit.specs.Differs.{Gathered, nothing_yet, gathered, lines_before, visits_good, bad_line, differs_from}
use Rattle.session_audit.specs.Whole.{lines_read}

abbrev pub place_of : held.SlotLog → SlotLog
place_of helds.Closed = shut
place_of (helds.Open h) = running (held_of h)

abbrev pub told_in : List (Option RecordedLine) → List ToldLine
told_in told = map told_of told

-- the block that is being read
abbrev pub gathered_of : Option Begun → Gathered
gathered_of None = nothing_yet
gathered_of (Some b) = gathered b.number (told_in b.told.items)

-- ---- results of calls that run no stack, and of stack calls that have no code

abbrev pub at_quiet : Held → Command → Shown → Option SlotLog
at_quiet h (runs func) (shows_pending other) = only_if (aborted_by h.pending func other) (running h)
at_quiet h command shown = at_running h command shown

abbrev pub after_quiet : SlotLog → Result → Option SlotLog
after_quiet shut (answered command shown) = at_shut command shown
after_quiet shut (closed_by_program code) = None
after_quiet (running h) (answered command shown) = at_quiet h command shown
after_quiet (running h) (closed_by_program code) = Some shut

-- a result is the code of a stack call
abbrev pub IsCall : Option StackCall → Result → Type 0
IsCall (Some call) result = result ≡ answered (runs call.func) (shows_code call.code)
IsCall None result =
    (func : Func) (code : Code) → result ≡ answered (runs func) (shows_code code) → ⊥

-- ---- the result of a block

-- the state of the transaction after it, or which line doesn't fit
abbrev pub IsJudged : Judged → Option SlotLog → ℕ → Type 0
IsJudged (judged.Fits place) slot_log bad = slot_log ≡ Some (place_of place)
IsJudged (judged.Differs line) slot_log bad = (slot_log ≡ None) × (line ≡ bad)

-- a block is judged by the state of its transaction
abbrev pub Judges : Stacks → SlotLog → List ToldLine → Result → Judged → Type 0
Judges stacks place told result j =
    IsJudged j (after_result stacks place (visits_told told) result)
    (lines_before (visits_good stacks (Some place) (visits_told told) result) told)

-- the same for all transactions; a line is named if the block doesn't fit
abbrev pub IsPlaced : Stacks → List held.SlotLog → Block → Option ℕ → List held.SlotLog → Type 0
IsPlaced stacks old b (Some line) new =
    (after_block stacks (map place_of old) b ≡ None) ×
    (line ≡ bad_line stacks (place_at (map place_of old) b.number) b)
IsPlaced stacks old b None new =
    (after_block stacks (map place_of old) b ≡ Some (map place_of new)) ×
    (length new ≡ length old)

-- the same for a number that no transaction has
abbrev pub IsUnplaced : Option ℕ → List ToldLine → Result → Type 0
IsUnplaced None told result =
    (stacks : Stacks) → (is_bad_number stacks result && is_none (visits_told told)) ≡ true
IsUnplaced (Some line) told result =
    ((stacks : Stacks) → (is_bad_number stacks result && is_none (visits_told told)) ≡ false) ×
    (line ≡ lines_before 0 told)

-- ---- lines that are left

-- the part that counts of each line of a text
abbrev pub bare_lines : List ℕ → List (Option Says)
bare_lines text = map (option_map bare) (lines_read read_line text)

-- the first of these lines that differs, after what the checker has read
abbrev pub differs_at : Stacks → Checker → List (Option Says) → Option ℕ
differs_at stacks c lines =
    differs_from stacks (map place_of c.places.items) (gathered_of c.begun) c.lines lines

-- the block that has begun consists of lines that were taken
abbrev pub begun_within : Option Begun → ℕ → Type 0
begun_within None lines = Unit {0}
begun_within (Some b) lines = length b.told.items ≤ lines

-- a checker that has taken n lines
pub record IsAfter (c : Checker) (n : ℕ) : Type 0 where
  pub lines_are : c.lines ≡ n
  pub sixteen : length c.places.items ≡ 16
  pub begun : begun_within c.begun n

-- A line is taken, the last one or not: either it is named, or the first line that differs stays
-- the same.
abbrev pub IsTaken : Stacks → Checker → Option Says → Bool → Option ℕ → Checker → Type 0
IsTaken stacks old line is_last (Some named) new =
    (lines : List (Option Says)) → is_none lines ≡ is_last →
    differs_at stacks old (line ∷ lines) ≡ Some named
IsTaken stacks old line is_last None new = IsAfter new (old.lines + 1) ×
    ((lines : List (Option Says)) → is_none lines ≡ is_last →
    differs_at stacks old (line ∷ lines) ≡ differs_at stacks new lines)

-- the line that a verdict names
abbrev pub line_of : Verdict → Option ℕ
line_of verdicts.Fits = None
line_of (verdicts.Differs line) = Some line
