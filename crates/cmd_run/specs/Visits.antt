-- What the modules of the stack lines that a script runs get (this project's own).
use Rattle.std.specs.Prelude.{◌≡◌, ℕ, List, [], ◌∷◌, ◌++◌}
use Rattle.report_step.specs.pam_library.specs.Plays.{AreAskedAt, AskedLine, LinesLead, StepAsks}
use Rattle.report_step.specs.pam_library.specs.SideBySide.{Met}
use Rattle.report_step.specs.pam_library.specs.Slots.{PlainSlot}
use Rattle.report_step.specs.pam_library.specs.Step.{stepped}
use Rattle.pam_base.specs.declared.code.Code.{Code}
use Rattle.pam_outside.specs.Time.{time_of}
use Rattle.report_step.specs.pam_room.specs.Module.{Player}
use Rattle.record_reader.specs.LineRun.{run_lines}
use Rattle.cmd_run.specs.Closings.{all_closed}
use Rattle.cmd_run.specs.SideBySide.{steps_in}
use Rattle.cmd_run.specs.State.{RunState, Setting}
use Rattle.cmd_run.specs.Step.{line_step}

module _ (setting : Setting) where
  -- What the modules of the stack lines that some steps run get, step by step, each at the time of
  -- its step.
  abbrev pub StepsAsk : List PlainSlot → List Met → List AskedLine → Type 0
  StepsAsk slots [] asked = asked ≡ []
  StepsAsk slots (m ∷ steps) asked =
      (first : List AskedLine) × (others : List AskedLine) × (asked ≡ first ++ others)
      × StepAsks setting.players setting.delay slots m.world m.step first
      × AreAskedAt (time_of m.world.clock) first
      × StepsAsk (stepped setting.players setting.delay slots m.world m.step).slots steps others

  -- The same for the lines of a script, which follow n lines, up to the first one that is refused.
  abbrev pub ScriptAsks : ℕ → RunState → List (List ℕ) → List AskedLine → Type 0
  ScriptAsks n s script asked = StepsAsk s.slots (steps_in setting n s script) asked

-- For every script: what these modules get; their definitions change files, one after another, and
-- nothing else does. The implicit pam_end calls after it change no file.
pub record FilesChangeByPlays : Type 0 where
  pub script : (setting : Setting) (n : ℕ) (s : RunState) (script : List (List ℕ))
      → (asked : List AskedLine) × ScriptAsks setting n s script asked
      × LinesLead setting.players s.world.vault.files asked
      (run_lines (line_step setting) n s script).last.world.vault.files
  pub closings : (players : List Player) (status : Code) (s : RunState)
      → (all_closed players status s).world.vault.files ≡ s.world.vault.files
