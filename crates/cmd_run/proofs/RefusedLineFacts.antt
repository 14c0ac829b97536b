-- Which line is refused, and why, whatever the lines do.
use Rattle.std.proofs.Common.{◌≡◌, ℕ, ◌+◌, Bool, true, false, leb, ltb, cond, List, [], ◌∷◌, length, Result, Ok, Err, refl}
use Rattle.pam_base.specs.declared.fault.ScriptKind.{ScriptKind}
use Rattle.pam_base.specs.declared.fault.ScriptKind.TheVariants.{LineTooLong, TooManyLines}
use Rattle.script_lang.specs.declared.line.Line.{Line}
use Rattle.script_lang.specs.Line.{parsed}
use Rattle.record_reader.specs.Run.{after, run_items, run_of as run_looked}
use Rattle.record_reader.specs.Looked.{looked}
use Rattle.record_reader.specs.LineRun.{Run, run_of, step_at}
use Rattle.cmd_run.specs.Reading.{line_read, read_as}
use Rattle.cmd_run.specs.State.{RunState, Setting, kept_at}
use Rattle.cmd_run.specs.Step.{applied, applied_or_refused, line_step}

-- they are refused for the same line, and for the same fault
abbrev pub Agree : Run RunState → Run (Unit {0}) → Type 0
Agree r q = (r.refused ≡ q.refused) × (r.items ≡ q.items)

module _ (setting : Setting) where
  by_parsed : (n : ℕ) (s now : RunState) (found : Result Line ScriptKind) (next : RunState → Run RunState) (others : Unit {0} → Run (Unit {0}))
      → ((t : RunState) → Agree (next t) (others tt))
      → Agree (after n s (applied_or_refused setting now found) next) (after n tt (read_as found) others)
  by_parsed n s now (Ok line) next others agree = agree (applied setting now line).0
  by_parsed n s now (Err kind) next others agree = (refl, refl)

  by_flags : (many long : Bool) (n : ℕ) (s : RunState) (line : List ℕ) (next : RunState → Run RunState) (others : Unit {0} → Run (Unit {0}))
      → ((t : RunState) → Agree (next t) (others tt))
      → Agree (after n s (cond many (Err TooManyLines) (cond long (Err LineTooLong) (line_step setting n s line))) next)
      (after n tt (cond many (Err TooManyLines) (cond long (Err LineTooLong) (line_read n tt line))) others)
  unfolding line_step line_read
  by_flags true long n s line next others agree = (refl, refl)
  by_flags false true n s line next others agree = (refl, refl)
  by_flags false false n s line next others agree = by_parsed n s (kept_at setting n s) (parsed line) next others agree

  lines_agree : (lines : List (List ℕ)) (n : ℕ) (s : RunState) → Agree (run_items (step_at (line_step setting)) n s lines)
      (run_items (step_at line_read) n tt lines)
  unfolding run_items step_at
  lines_agree [] n s = (refl, refl)
  lines_agree (line ∷ rest) n s =
      by_flags (leb 65536 n) (ltb 513 (length line)) n s line (λ t. run_items (step_at (line_step setting)) (n + 1) t rest)
      (λ u. run_items (step_at line_read) (n + 1) u rest) (λ t. lines_agree rest (n + 1) t)

  pub bytes_agree : (start : RunState) (bytes : List ℕ) (ended : Bool) → Agree (run_of (line_step setting) 0 start bytes ended)
      (run_of line_read 0 tt bytes ended)
  unfolding run_looked
  bytes_agree start bytes ended = lines_agree (looked 0 bytes ended) 0 start
