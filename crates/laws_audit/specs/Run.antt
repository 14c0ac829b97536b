-- The report of a run fits (this project's own).
use Rattle.std.specs.Prelude.{◌≡◌, ℕ, ◌+◌, true, false, List, [], ◌∷◌, ◌++◌, length, nat_le, nat_lt, if◌then◌else◌, Option, Some, None, Result, Ok, Err}
use Rattle.pam_base.specs.declared.code.Code.{Code}
use Rattle.pam_base.specs.declared.call.AppCall.{AppCall}
use Rattle.pam_base.specs.declared.call.AppCall.TheVariants as calls
use Rattle.pam_base.specs.declared.call.Step.{Step as Asked}
use Rattle.pam_base.specs.declared.fault.ScriptKind.{ScriptKind}
use Rattle.script_lang.specs.declared.line.Line.{Line}
use Rattle.script_lang.specs.declared.line.Line.TheVariants as lines
use Rattle.script_lang.specs.Line.{parsed}
use Rattle.record_reader.specs.declared.ending.Ending.TheVariants.{Done, ReadFault, Refused}
use Rattle.record_reader.specs.Looked.{held_limit, looked}
use Rattle.record_reader.specs.LineRun.{step_at}
use Rattle.record_reader.specs.LineTurns.{Ending}
use Rattle.dispatch_core.specs.Lines.{names_of}
use Rattle.pam_room.specs.Module.{Player}
use Rattle.pam_room.specs.State.{PlainWorld}
use Rattle.service_load.specs.Stacks.{Stacks}
use Rattle.pam_handle.specs.Start.{stacks_under}
use Rattle.pam_library.specs.declared.outcome.Answer.{Answer}
use Rattle.pam_library.specs.declared.outcome.Answer.TheVariants as answers
use Rattle.pam_library.specs.Slots.{PlainSlot, closed, opened}
use Rattle.pam_library.specs.Step.{Stepped, stepped}
use Rattle.pam_outside.specs.Streams.{SourceState, SinkState}
use Rattle.cmd_run.specs.State.{RunState, Setting, kept_at}
use Rattle.cmd_run.specs.Step.{line_step}
use Rattle.cmd_run.specs.Closings.{world_after}
use Rattle.cmd_run.specs.Whole.{EndsAs, RunsScript, ending_status}
use Rattle.report_lines.specs.Line.{long_of, Block, Last, unread, refused_at}
use Rattle.session_audit.specs.Fits.{Fits, all_shut}
use Rattle.laws_audit.specs.Report.{reported, closing_reported}
use Rattle.laws_audit.specs.Step.{HaveStacks, places_of}

module _ (setting : Setting) where
  abbrev pub step_blocks : Asked → Stepped → List Block
  step_blocks step t = reported (names_of setting.players) step t.outcome t.world.process.ledger

  -- the blocks of what a line asks for
  abbrev pub blocks_asked : RunState → Result Line ScriptKind → List Block
  blocks_asked s (Ok (lines.Step step)) = step_blocks step (stepped setting.players setting.delay s.slots s.world step)
  blocks_asked s read = []

  -- the blocks of a line that has n lines before it
  abbrev pub line_blocks : ℕ → RunState → List ℕ → List Block
  line_blocks n s line = if nat_le 65536 n then [] else if nat_lt held_limit (length line) then [] else blocks_asked (kept_at setting n s) (parsed line)

  abbrev pub blocks_on : Result (RunState × List ℕ) ScriptKind → (RunState → List Block) → List Block
  blocks_on (Ok x) rest = rest x.0
  blocks_on (Err kind) rest = []

  -- the blocks of a run's lines
  abbrev pub run_blocks : ℕ → RunState → List (List ℕ) → List Block
  run_blocks n s [] = []
  run_blocks n s (l ∷ ls) = line_blocks n s l ++ blocks_on (step_at (line_step setting) n s l) (λ t. run_blocks (n + 1) t ls)

  -- after a line that wasn't refused
  abbrev pub OnState : Result (RunState × List ℕ) ScriptKind → (RunState → Type 0) → Type 0
  OnState (Ok x) P = P x.0
  OnState (Err kind) P = Unit {0}

  -- a start that succeeds finds these stacks
  abbrev pub StartFinds : Stacks → PlainWorld → AppCall → Answer → Type 0
  StartFinds stacks w (calls.Start service user) (answers.Code code) = stacks_under w.vault w.process.root service ≡ stacks
  StartFinds stacks w call answer = Unit {0}

  abbrev pub AskedFinds : Stacks → RunState → Result Line ScriptKind → Type 0
  AskedFinds stacks s (Ok (lines.Step step)) = StartFinds stacks s.world step.call (stepped setting.players setting.delay s.slots s.world step).outcome.answer
  AskedFinds stacks s read = Unit {0}

  -- each start of a run that succeeds finds these stacks
  abbrev pub StartsFind : Stacks → ℕ → RunState → List (List ℕ) → Type 0
  StartsFind stacks n s [] = Unit {0}
  StartsFind stacks n s (l ∷ ls) = OnState (step_at (line_step setting) n s l) (λ t. AskedFinds stacks (kept_at setting n s) (parsed l) × StartsFind stacks (n + 1) t ls)

  -- after each line of a run, the open transactions have these stacks
  abbrev pub HaveAlong : Stacks → ℕ → RunState → List (List ℕ) → Type 0
  HaveAlong stacks n s [] = Unit {0}
  HaveAlong stacks n s (l ∷ ls) = OnState (step_at (line_step setting) n s l) (λ t. HaveStacks stacks t.slots × HaveAlong stacks (n + 1) t ls)

  -- the lines that a run looked at, depending on how it ended
  abbrev pub lines_looked : Ending → List ℕ → List ℕ → List (List ℕ)
  lines_looked ReadFault input taken = looked 0 taken false
  lines_looked ending input taken = looked 0 input true

-- the blocks of the transactions that the program ends, after some slots that are closed
abbrev pub closing_blocks : List Player → Code → List PlainSlot → List PlainSlot → PlainWorld → List Block
closing_blocks players status front [] w = []
closing_blocks players status front (closed conv ∷ slots) w = closing_blocks players status (front ++ closed conv ∷ []) slots w
closing_blocks players status front (opened h ∷ slots) w =
    closing_reported (names_of players) (length front + 1) status (world_after players status h w).process.ledger (length w.process.ledger.filed)
    ∷ closing_blocks players status (front ++ closed h.room.conv ∷ []) slots (world_after players status h w)

abbrev pub last_of : Ending → ℕ → Option Last
last_of Done n = None
last_of ReadFault n = Some unread
last_of (Refused kind) n = Some (refused_at (long_of (n + 1)) kind)

-- all blocks of a run that ended after some lines
abbrev pub blocks_of_run : Setting → Ending → RunState → RunState → List ℕ → List ℕ → List Block
blocks_of_run setting ending start last input taken =
    run_blocks setting 0 start (lines_looked setting ending input taken) ++ closing_blocks setting.players (ending_status ending) [] last.slots last.world

-- A run that ended, from sixteen closed transactions, each of whose successful starts finds these
-- stacks, which are such: its report fits them.
abbrev pub RunsFitIf : (Stacks → Type 0) → Type 0
RunsFitIf AreSuch = (setting : Setting) (stacks : Stacks) (ending : Ending) (start end : RunState) (input taken left text : List ℕ) →
    (e : EndsAs setting ending start end input taken left text) →
    AreSuch stacks →
    places_of start.slots ≡ all_shut →
    StartsFind setting stacks 0 start (lines_looked setting ending input taken) →
    Fits stacks text

-- The same for what a run writes to a modelled sink, however it ended.
abbrev pub ScriptsFitIf : (Stacks → Type 0) → Type 0
ScriptsFitIf AreSuch = (setting : Setting) (stacks : Stacks) (ending : Ending) (start end : RunState) (x y : SourceState) (p q : SinkState) →
    (r : RunsScript setting (Ok ending) start end x y p q) →
    AreSuch stacks →
    places_of start.slots ≡ all_shut →
    StartsFind setting stacks 0 start (lines_looked setting ending x.left r.taken) →
    (q.written ≡ p.written ++ r.text) × Fits stacks r.text
