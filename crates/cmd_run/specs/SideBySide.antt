-- The results of the lines of a script in one slot (this project's own).
use Rattle.std.specs.Prelude.{◌≡◌, ℕ, ◌+◌, Bool, List, [], ◌∷◌, ◌++◌, Some, Result, Ok, Err}
use Rattle.pam_base.specs.declared.fault.ScriptKind.{ScriptKind}
use Rattle.report_step.specs.dispatch_core.specs.Lines.{names_of}
use Rattle.report_step.specs.pam_library.specs.SideBySide.{Met, alone, outcomes_alone, outcomes_on, own_steps}
use Rattle.report_step.specs.pam_library.specs.Slots.{PlainSlot, slot_at}
use Rattle.report_step.specs.pam_library.specs.Step.{stepped}
use Rattle.script_lang.specs.declared.line.Line.{Line}
use Rattle.script_lang.specs.declared.line.Line.TheVariants as lines
use Rattle.script_lang.specs.Line.{parsed}
use Rattle.record_reader.specs.Looked.{looked}
use Rattle.record_reader.specs.LineRun.{run_of, step_at}
use Rattle.report_step.specs.Step.{step_text}
use Rattle.cmd_run.specs.State.{Setting, RunState, kept_at}
use Rattle.cmd_run.specs.Step.{line_step}

-- the step that a line asks for, with the world as it is before it; no other line has one
abbrev pub step_of : RunState → Result Line ScriptKind → List Met
step_of s (Ok (lines.Step step)) = record { step = step; world = s.world } ∷ []
step_of s (Ok lines.Blank) = []
step_of s (Ok (lines.At moment)) = []
step_of s (Ok (lines.Random word)) = []
step_of s (Ok (lines.Caller caller)) = []
step_of s (Err kind) = []

module _ (setting : Setting) where
  -- the steps of a line that was applied, and of those after it
  abbrev pub steps_after : RunState → List ℕ → Result (RunState × List ℕ) ScriptKind
      → (RunState → List Met) → List Met
  steps_after s line (Ok applied) next = step_of s (parsed line) ++ next applied.0
  steps_after s line (Err kind) next = []

  -- the steps of some lines that have n lines before them, up to the first that is refused
  unfoldable pub steps_in : ℕ → RunState → List (List ℕ) → List Met
  steps_in n s [] = []
  steps_in n s (line ∷ rest) =
      steps_after (kept_at setting n s) line (step_at (line_step setting) n s line) (λ t.
      steps_in (n + 1) t rest)

  -- what is reported of some steps, one after another: for each its outcome, with the cleanup records that it filed
  abbrev pub report_of_steps : List PlainSlot → List Met → List ℕ
  report_of_steps slots [] = []
  report_of_steps slots (m ∷ steps) =
      let t = stepped setting.players setting.delay slots m.world m.step in
      step_text (names_of setting.players) m.step t.outcome t.world.process.ledger
      ++ report_of_steps t.slots steps

  -- the steps of the lines among some bytes
  abbrev pub steps_of : RunState → List ℕ → Bool → List Met
  steps_of s bytes ended = steps_in 0 s (looked 0 bytes ended)

  -- What is reported of the lines among some bytes is the report of their steps.
  abbrev pub TellsSteps : RunState → List ℕ → Bool → Type 0
  TellsSteps s bytes ended = (run_of (line_step setting) 0 s bytes ended).text
      ≡ report_of_steps s.slots (steps_of s bytes ended)

  -- The slot of a number after the lines among some bytes, and the outcomes of the steps on it, are the results of
  -- these steps alone, from that slot on, each in the world as it was before it.
  pub record ComesAlone (s : RunState) (bytes : List ℕ) (ended : Bool) (number : ℕ)
      (slot : PlainSlot) : Type 0 where
    pub slot_is : slot_at (run_of (line_step setting) 0 s bytes ended).last.slots number
        ≡ Some (alone setting.players setting.delay number slot
        (own_steps number (steps_of s bytes ended)))
    pub outcomes_are : outcomes_on setting.players setting.delay number s.slots
        (steps_of s bytes ended) ≡ outcomes_alone setting.players setting.delay number slot
        (own_steps number (steps_of s bytes ended))

-- this holds for each number, and the report is that of all steps, in order
pub record NumbersGoAlone : Type 0 where
  pub alone : (setting : Setting) (start : RunState) (bytes : List ℕ) (ended : Bool) (number : ℕ)
      (slot : PlainSlot) → slot_at start.slots number ≡ Some slot
      → ComesAlone setting start bytes ended number slot
  pub steps : (setting : Setting) (start : RunState) (bytes : List ℕ) (ended : Bool)
      → TellsSteps setting start bytes ended
