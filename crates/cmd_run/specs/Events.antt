-- The data sets and ends of a run (pam_set_data(3), pam_end(3); that a run's lines and implicit ends are their fold is
-- this project's own).
use Rattle.std.specs.Prelude.{◌≡◌, ◌⊎◌, ℕ, ◌+◌, true, List, [], ◌∷◌, ◌++◌, length, take, drop, Option, Some, None, Result, Ok, Err}
use Rattle.pam_base.specs.Code.{number_of}
use Rattle.pam_base.specs.Lines.{lines_of}
use Rattle.pam_base.specs.declared.code.Code.{Code}
use Rattle.pam_base.specs.declared.fault.ScriptKind.{ScriptKind}
use Rattle.data_cleanup.specs.Cleanup.{Notes}
use Rattle.data_cleanup.specs.Due.{Event, ends, due}
use Rattle.data_cleanup.specs.Ledger.{PlainLedger}
use Rattle.data_cleanup.specs.Moves.{Moves}
use Rattle.data_cleanup.specs.Modelled.{ModelsEvents, births_of, receipts_in}
use Rattle.report_step.specs.pam_room.specs.Module.{notes_of}
use Rattle.report_step.specs.pam_library.specs.AnyWorld.{end_at}
use Rattle.report_step.specs.pam_library.specs.Calls.{Moved, events_of}
use Rattle.report_step.specs.pam_library.specs.Slots.{PlainSlot, closed, handle_limit, lists_of, opened, slot_at}
use Rattle.script_lang.specs.declared.line.Line.{Line}
use Rattle.script_lang.specs.declared.line.Line.TheVariants as lines
use Rattle.script_lang.specs.Line.{parsed}
use Rattle.record_reader.specs.declared.ending.Ending.{Ending}
use Rattle.record_reader.specs.declared.ending.Stop.{Stop}
use Rattle.record_reader.specs.Run.{ItemFails, ItemStep, Looks, come_to}
use Rattle.record_reader.specs.Turns.{Place, Turns}
use Rattle.record_reader.specs.Whole.{Runs}
use Rattle.record_reader.specs.LineRun.{run_lines, step_at}
use Rattle.pam_outside.specs.Streams.{SinkState, SourceState}
use Rattle.cmd_run.specs.AnyWorld.{ProceedsBy}
use Rattle.cmd_run.specs.Asked.{Asking, FirstAsks}
use Rattle.cmd_run.specs.Ends.{AsksEnd, EndsAre, IsStatusOf}
use Rattle.cmd_run.specs.State.{Setting, RunState}
use Rattle.cmd_run.specs.Step.{line_step}

-- ---- the lines

-- the end that a line is, if it asks for one of an open transaction
abbrev pub line_end : List PlainSlot → Line → List Event
line_end slots (lines.Step step) = end_at (slot_at slots step.number) step.number step.call
line_end slots lines.Blank = []
line_end slots (lines.At moment) = []
line_end slots (lines.Random word) = []
line_end slots (lines.Caller caller) = []

abbrev pub end_by : {Kind : Type 0} → List PlainSlot → Result Line Kind → List Event
end_by slots (Ok line) = line_end slots line
end_by slots (Err kind) = []

-- a line that was applied: the end that it is, and the cleanup log and data after it
abbrev pub moved_by : RunState → List ℕ → RunState → Moved
moved_by s line t = record {
  ended = end_by s.slots (parsed line);
  ledger = t.world.process.ledger;
  lists = lists_of t.slots;
}

module _ (setting : Setting) where
  abbrev pub calls_past : RunState → List ℕ → Result (RunState × List ℕ) ScriptKind
      → (RunState → List Moved) → List Moved
  calls_past s line (Ok applied) next = moved_by s line applied.0 ∷ next applied.0
  calls_past s line (Err kind) next = []

  -- lines that have n lines before them, up to the first that is refused
  unfoldable pub line_calls : ℕ → RunState → List (List ℕ) → List Moved
  line_calls n s [] = []
  line_calls n s (line ∷ rest) =
      calls_past s line (step_at (line_step setting) n s line) (λ t. line_calls (n + 1) t rest)

  -- their events: for each line the data that it sets, in order, and then the end that it is
  abbrev pub line_events : RunState → List (List ℕ) → List Event
  line_events s ls = events_of s.world.process.ledger (line_calls 0 s ls)

-- ---- the implicit ends

-- the ends of the open transactions, the lowest number first, if the first slot has this number
abbrev pub closing_events : ℕ → ℕ → List PlainSlot → List Event
closing_events number status [] = []
closing_events number status (closed conv ∷ slots) = closing_events (number + 1) status slots
closing_events number status (opened h ∷ slots) =
    ends number status ∷ closing_events (number + 1) status slots

-- ---- the run

-- the first lines of a script, n, and then what is open after them is ended
abbrev pub run_events : Setting → Code → RunState → List ℕ → ℕ → RunState → List Event
run_events setting status start script lines last =
    line_events setting start (take lines (lines_of script))
    ++ closing_events 1 (number_of status) last.slots

-- whatever cleanup log and data modelled, they model it and then these events
abbrev pub AddsEvents : Notes → List Event → RunState → RunState → Type 0
AddsEvents note added s t = (events : List Event)
    → ModelsEvents note handle_limit s.world.process.ledger (lists_of s.slots) events
    → ModelsEvents note handle_limit t.world.process.ledger (lists_of t.slots) (events ++ added)

-- ---- while it goes on

-- one of these lines is the next, and asks for this end
abbrev pub IsAskedBy : List (List ℕ) → ℕ → ℕ → Type 0
IsAskedBy [] number status = ⊥
IsAskedBy (line ∷ rest) number status = AsksEnd line number status

-- one line that was applied, and one item, whatever the slots before it held
abbrev pub LineMoves : Notes → List PlainSlot → Line → PlainLedger → PlainLedger → List PlainSlot
    → Type 0
LineMoves note slots line before after next =
    Moves note handle_limit (line_end slots line) before (lists_of slots) after (lists_of next)

abbrev pub MovesBy : {Kind : Type 0} → Notes → List PlainSlot → Result Line Kind → PlainLedger
    → PlainLedger → List PlainSlot → Type 0
MovesBy note slots asked before after next =
    Moves note handle_limit (end_by slots asked) before (lists_of slots) after (lists_of next)

module _ {Kind : Type 0} (looked : Looks) (asked : Asking Kind)
    (step : Setting → ItemStep RunState Kind) (setting : Setting) where
  -- Some items lead from one state to another and have this text: each was applied, and its sets
  -- and its end were added to cleanup log and data.
  abbrev pub LeadOn : ℕ → RunState → List (List ℕ) → ℕ → RunState → List ℕ → Type 0
  LeadOn n s [] m t text = (m ≡ n) × (t ≡ s) × (text ≡ [])
  LeadOn n s (item ∷ rest) m t text =
      (u : RunState) × (first : List ℕ) × (others : List ℕ) × (text ≡ first ++ others)
      × (step setting n s item ≡ Ok (u, first))
      × MovesBy (notes_of setting.players) s.slots (asked n item) s.world.process.ledger
      u.world.process.ledger u.slots
      × LeadOn (n + 1) u rest m t others

  -- the first items of a text were served, and their text is written; which items come after them
  pub record Served (n m : ℕ) (s t : RunState) (input : List ℕ) (others : List (List ℕ))
      (p q : SinkState) : Type 0 where
    pub served : List (List ℕ)
    pub among : looked n input true ≡ served ++ others
    pub number : m ≡ n + length served
    pub text : List ℕ
    pub written : q.written ≡ p.written ++ text
    pub lead : LeadOn n s served m t text

  -- A run stopped after m items: the first items of a text were served, and at most the next one was begun. What was
  -- done to data after them is a set, or the end that this item asks for.
  pub record Broken (n m : ℕ) (s t : RunState) (input : List ℕ) (p q : SinkState) : Type 0 where
    pub middle : RunState
    pub sink : SinkState
    pub others : List (List ℕ)
    pub served : Served n m s middle input others p sink
    pub part : List ℕ
    pub written : q.written ≡ sink.written ++ part
    pub later : ProceedsBy (FirstAsks asked m others) (notes_of setting.players)
        middle.world.process.ledger (lists_of middle.slots) t.world.process.ledger
        (lists_of t.slots)

  -- what one turn served, by its result
  abbrev pub ServesTurn : Result (Option (Ending Kind)) Stop → Place RunState → Place RunState
      → Type 0
  ServesTurn (Ok None) a b = Served a.items b.items a.state b.state (a.held ++ a.source.left)
      (looked b.items (b.held ++ b.source.left) true) a.sink b.sink
  ServesTurn (Ok (Some ending)) a b = (others : List (List ℕ))
      × Served a.items b.items a.state b.state (a.held ++ a.source.left) others a.sink b.sink
  ServesTurn (Err stop) a b =
      Broken a.items b.items a.state b.state (a.held ++ a.source.left) a.sink b.sink

  -- what many served from the first item on
  abbrev pub ServesAll : Result (Ending Kind) Stop → ℕ → RunState → RunState → List ℕ → SinkState
      → SinkState → Type 0
  ServesAll (Ok ending) m s t input p q =
      (others : List (List ℕ)) × Served 0 m s t input others p q
  ServesAll (Err stop) m s t input p q = Broken 0 m s t input p q

module _ {Kind : Type 0} (looked : Looks) (asked : Asking Kind)
    (step : Setting → ItemStep RunState Kind)
    (fails : Setting → ItemFails RunState) (setting : Setting) where
  -- one turn or many with modelled objects: what was taken and written, and which items were served
  pub record TellsTurn (result : Result (Option (Ending Kind)) Stop)
      (old new : Place RunState) : Type 0 where
    pub turns : Turns looked (step setting) (fails setting) result old new
    pub served : ServesTurn looked asked step setting result old new

  -- the same from the first byte on
  pub record TellsAll (result : Result (Ending Kind) Stop) (m : ℕ) (s t : RunState)
      (x y : SourceState) (p q : SinkState) : Type 0 where
    pub runs : Runs looked (step setting) (fails setting) result m s t x y p q
    pub served : ServesAll looked asked step setting result m s t x.left p q

-- ---- a run that stops

-- The end of a transaction: one that the next line asks for, or one with this status.
abbrev pub IsLaterEnd : Code → List (List ℕ) → ℕ → ℕ → Type 0
IsLaterEnd status others number ended = IsAskedBy others number ended
    ⊎ IsStatusOf status number ended

-- The run stopped among its lines: the whole text of n lines is in what was written. Cleanup log
-- and data model their events, and then others, whose ends the next line asked for or have this
-- status.
pub record EventsUntilCut (setting : Setting) (status : Code) (lines : ℕ) (start end : RunState)
    (input text : List ℕ) : Type 0 where
  pub middle : RunState
  pub whole : List ℕ
  pub part : List ℕ
  pub run : run_lines (line_step setting) 0 start (take lines (lines_of input))
      ≡ come_to whole middle lines None
  pub parts : text ≡ whole ++ part
  pub later : List Event
  pub ends_are : EndsAre (IsLaterEnd status (drop lines (lines_of input))) later
  pub stand : AddsEvents (notes_of setting.players)
      (line_events setting start (take lines (lines_of input)) ++ later) start end

-- The run stopped after its lines: cleanup log and data model the events of the lines, and then
-- others, whose ends have one of these two statuses.
pub record EventsAfterLines (setting : Setting) (status stopped : Code) (lines : ℕ)
    (start end : RunState) (input : List ℕ) : Type 0 where
  pub later : List Event
  pub ends_are : EndsAre (λ (number : ℕ) (ended : ℕ). IsStatusOf status number ended
      ⊎ IsStatusOf stopped number ended) later
  pub stand : AddsEvents (notes_of setting.players)
      (line_events setting start (take lines (lines_of input)) ++ later) start end

-- The records of a cleanup log, of sets and of cleanups, are those of these events, in order.
pub record AreDue (note : Notes) (events : List Event) (ledger : PlainLedger) : Type 0 where
  pub births : ledger.births ≡ births_of events
  pub receipts : receipts_in ledger.filed ≡ due note events
