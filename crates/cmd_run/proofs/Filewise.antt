-- How the lines of a script and the implicit ends after them change files.
use Rattle.std.proofs.Common.{◌≡◌, ℕ, ◌+◌, Bool, true, false, cond, List, [], ◌∷◌, ◌++◌, length, Result, Ok, Err, nat_le, nat_lt, refl}
use Rattle.pam_base.specs.declared.code.Code.{Code}
use Rattle.pam_base.specs.declared.call.Step.{Step}
use Rattle.pam_base.specs.declared.fault.ScriptKind.{ScriptKind}
use Rattle.pam_base.specs.declared.fault.ScriptKind.TheVariants.{LineTooLong, TooManyLines}
use Rattle.pam_outside.specs.Files.{File}
use Rattle.pam_outside.specs.Time.{time_of}
use Rattle.report_step.specs.pam_room.specs.Module.{Player}
use Rattle.report_step.specs.pam_room.specs.State.{PlainWorld}
use Rattle.report_step.specs.pam_library.specs.Plays.{AreAskedAt, AskedLine, LinesLead, StepAsks}
use Rattle.report_step.specs.pam_library.specs.SideBySide.{Met}
use Rattle.report_step.specs.pam_library.specs.Slots.{PlainSlot, closed, opened}
use Rattle.report_step.specs.pam_library.specs.Step.{stepped}
use Rattle.script_lang.specs.declared.line.Line.{Line}
use Rattle.script_lang.specs.declared.line.Line.TheVariants as lines
use Rattle.script_lang.specs.Line.{parsed}
use Rattle.record_reader.specs.Run.{after, run_items}
use Rattle.record_reader.specs.LineRun.{run_lines, step_at}
use Rattle.cmd_run.specs.Closings.{all_closed, closings_after, last_state, world_after}
use Rattle.cmd_run.specs.SideBySide.{step_of, steps_after, steps_in}
use Rattle.cmd_run.specs.State.{RunState, Setting, kept_at, state_of}
use Rattle.cmd_run.specs.Step.{applied_or_refused, line_step}
use Rattle.cmd_run.specs.Visits.{StepsAsk}

-- ---- the lines

-- what the modules of the lines that a step runs get, and that only their calls change the files
abbrev AllStepsAsk : Type 0
AllStepsAsk = (players : List Player) (number_of : Code → ℕ → ℕ) (slots : List PlainSlot) (w : PlainWorld) (step : Step) → (asked : List AskedLine)
    × StepAsks players number_of slots w step asked

abbrev AllStepsAskAtOnce : Type 0
AllStepsAskAtOnce = (players : List Player) (number_of : Code → ℕ → ℕ) (slots : List PlainSlot) (w : PlainWorld) (step : Step) (asked : List AskedLine)
    → StepAsks players number_of slots w step asked → AreAskedAt (time_of w.clock) asked

abbrev AllStepsLead : Type 0
AllStepsLead = (players : List Player) (number_of : Code → ℕ → ℕ) (slots : List PlainSlot) (w : PlainWorld) (step : Step) (asked : List AskedLine)
    → StepAsks players number_of slots w step asked → LinesLead players w.vault.files asked (stepped players number_of slots w step).world.vault.files

module _ (setting : Setting) (asks : AllStepsAsk) (at_once : AllStepsAskAtOnce) (step_leads : AllStepsLead)
    (together : (players : List Player) (first middle last : List File) (some others : List AskedLine) → LinesLead players first some middle
    → LinesLead players middle others last → LinesLead players first (some ++ others) last) where
  -- some steps lead from a state to these files
  abbrev pub Leads : RunState → List Met → List File → Type 0
  Leads s met last = (asked : List AskedLine) × StepsAsk setting s.slots met asked × LinesLead setting.players s.world.vault.files asked last

  -- a line that isn't refused, and what follows from the state after it
  abbrev pub LineLeads : RunState → Result Line ScriptKind → Result (RunState × List ℕ) ScriptKind → Type 0
  LineLeads s read (Ok x) = (met : List Met) (last : List File) → Leads x.0 met last → Leads s (step_of s read ++ met) last
  LineLeads s read (Err kind) = Unit {0}

  parsed_leads : (s : RunState) (read : Result Line ScriptKind) → LineLeads s read (applied_or_refused setting s read)
  parsed_leads s (Ok lines.Blank) = λ met last more. more
  parsed_leads s (Ok (lines.Step step)) = λ met last more.
      let a = asks setting.players setting.delay s.slots s.world step in
      let leads = step_leads setting.players setting.delay s.slots s.world step a.0 a.1 in
      let moments = at_once setting.players setting.delay s.slots s.world step a.0 a.1 in
      (a.0 ++ more.0, (a.0, more.0, refl, a.1, moments, more.1), together setting.players _ _ last a.0 more.0 leads more.2)
  parsed_leads s (Ok (lines.At moment)) = λ met last more. more
  parsed_leads s (Ok (lines.Random word)) = λ met last more. more
  parsed_leads s (Ok (lines.Caller caller)) = λ met last more. more
  parsed_leads s (Err kind) = tt

  either : (s : RunState) (read : Result Line ScriptKind) (b : Bool) (x y : Result (RunState × List ℕ) ScriptKind) → LineLeads s read x
      → LineLeads s read y → LineLeads s read (cond b x y)
  either s read true x y g h = g
  either s read false x y g h = h

  line_leads : (n : ℕ) (s : RunState) (line : List ℕ) → LineLeads (kept_at setting n s) (parsed line) (step_at (line_step setting) n s line)
  unfolding step_at line_step
  line_leads n s line =
      let now : RunState = (kept_at setting n s) in
      either now (parsed line) (nat_le 65536 n) (Err TooManyLines) _ tt (either now (parsed line) (nat_lt 513 (length line)) (Err LineTooLong) _ tt
      (parsed_leads now (parsed line)))

  followed : (n : ℕ) (s : RunState) (l : List ℕ) (ls : List (List ℕ)) (r : Result (RunState × List ℕ) ScriptKind) → LineLeads (kept_at setting n s) (parsed l) r
      → ((t : RunState) → Leads t (steps_in setting (n + 1) t ls) (run_lines (line_step setting) (n + 1) t ls).last.world.vault.files)
      → Leads s (steps_after setting (kept_at setting n s) l r (λ t. steps_in setting (n + 1) t ls))
      (after n s r (λ t. run_lines (line_step setting) (n + 1) t ls)).last.world.vault.files
  followed n s l ls (Ok x) leads more = leads (steps_in setting (n + 1) x.0 ls) _ (more x.0)
  followed n s l ls (Err kind) leads more = ([], refl, refl)

  pub script_leads : (script : List (List ℕ)) (n : ℕ) (s : RunState)
      → Leads s (steps_in setting n s script) (run_lines (line_step setting) n s script).last.world.vault.files
  unfolding run_items steps_in
  script_leads [] n s = ([], refl, refl)
  script_leads (l ∷ ls) n s = followed n s l ls (step_at (line_step setting) n s l) (line_leads n s l) (λ t. script_leads ls (n + 1) t)

-- ---- the implicit ends after them

module _ (players : List Player) (status : Code) where
  closings_leave : (slots front : List PlainSlot) (w : PlainWorld) (s : RunState) → s.world.vault.files ≡ w.vault.files
      → (last_state s (closings_after players status front slots w)).world.vault.files ≡ w.vault.files
  unfolding closings_after
  closings_leave [] front w s same = same
  closings_leave (closed conv ∷ slots) front w s same = closings_leave slots (front ++ closed conv ∷ []) w s same
  closings_leave (opened h ∷ slots) front w s same =
      closings_leave slots (front ++ closed h.room.conv ∷ []) (world_after players status h w)
      (state_of (front ++ closed h.room.conv ∷ slots) (world_after players status h w)) refl

  pub all_closed_leave : (s : RunState) → (all_closed players status s).world.vault.files ≡ s.world.vault.files
  all_closed_leave s = closings_leave s.slots [] s.world s refl
