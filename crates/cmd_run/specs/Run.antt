-- A whole run, whatever its items are: they are served, and then what is open is ended and reported (this project's
-- own).
use Rattle.std.specs.Prelude.{◌≡◌, ◌⊎◌, ℕ, ◌+◌, ◌≤◌, ◌<◌, Bool, true, List, [], ◌∷◌, ◌++◌, length, Option, Some, None, is_some, Result, Ok, Err, IfOk, OnOk, IsTrue}
use Rattle.data_cleanup.specs.Ledger.{is_filed}
use Rattle.pam_base.specs.declared.code.Code.{Code}
use Rattle.pam_outside.specs.Counts.{RisesIf, Rose}
use Rattle.pam_outside.specs.Streams.{SourceState, SinkState}
use Rattle.report_step.specs.pam_room.specs.Module.{Player, notes_of}
use Rattle.report_step.specs.pam_library.specs.Slots.{NoneIsOpen, lists_of}
use Rattle.record_reader.specs.declared.ending.Ending.{Ending}
use Rattle.record_reader.specs.declared.ending.Stop.{Stop}
use Rattle.record_reader.specs.Object.{Object}
use Rattle.record_reader.specs.Run.{ItemFails, ItemStep, Looks}
use Rattle.record_reader.specs.Turns.{has_read_fault, has_write_fault}
use Rattle.record_reader.specs.Whole.{at_last}
use Rattle.cmd_run.specs.AnyWorld.{ProceedsBy}
use Rattle.cmd_run.specs.Asked.{Asking, IsEndAmong}
use Rattle.cmd_run.specs.Closings.{Closing, all_closed, closings_text, last_state}
use Rattle.cmd_run.specs.Endings.{ending_status, stop_status}
use Rattle.cmd_run.specs.Ends.{IsStatusOf}
use Rattle.cmd_run.specs.Events.{TellsAll}
use Rattle.cmd_run.specs.Reading.{ReadsAll, TakesBytes, WritesScript, WritesSome}
use Rattle.cmd_run.specs.Reported.{CutBy, wrapped_closings}
use Rattle.cmd_run.specs.Seen.{AllTell, NoneIsOpenIn, SessionSeen, Went, setting_at, state}
use Rattle.cmd_run.specs.State.{RunState, Setting}
use Rattle.cmd_run.specs.Time.{Timing}

-- ---- its items

-- What holds for a stream that was served: if all objects are modelled, for its items; and what is known from the source
-- alone and from the sink alone.
module _ {Kind : Type 0} (looked : Looks) (asked : Asking Kind)
    (step : Setting → ItemStep RunState Kind) (fails : Setting → ItemFails RunState)
    (read_step : ItemStep (Unit {0}) Kind) where
  pub record ServesStream (time : Timing) (result : Result (Ending Kind) Stop) (taken : ℕ)
      (old new : SessionSeen) (input : Object SourceState) (output : Object SinkState) : Type 0 where
    pub source_tells : input.tells_after ≡ input.tells
    pub sink_tells : output.tells_after ≡ output.tells
    pub told : IsTrue time.tells → (delay : Code → ℕ → ℕ) → old.gives delay → AllTell old
        → IsTrue input.tells → IsTrue output.tells
        → TellsAll looked asked step fails (setting_at time.moments old delay) result taken
        (state old) (state new) input.old input.new output.old output.new
    pub reads : IsTrue input.tells → ReadsAll looked read_step result taken input.old input.new
    pub writes : IsTrue output.tells → WritesSome result output.old output.new
    pub few : taken ≤ 65536
    pub went : Went (IsEndAmong looked asked input.tells 0 input.old.left) old new
    pub source_faults : RisesIf (has_read_fault (at_last result)) input.faults_before
        input.faults_after
    pub sink_faults : RisesIf (has_write_fault result) output.faults_before output.faults_after

-- ---- what is written after them

abbrev pub text_of : Option (List ℕ) → List ℕ
text_of None = []
text_of (Some text) = text

module _ {Kind : Type 0} (wrapped : List ℕ → List ℕ) (last_text : Ending Kind → ℕ → Option (List ℕ))
    (players : List Player) where
  -- What was ended and written after n items. Either all transactions were ended, and the last text
  -- is written, completely or not; or those up to one whose report isn't completely written.
  abbrev pub EndsTo : Ending Kind → ℕ → Result (Unit {0}) Stop → RunState → RunState
      → List Closing → List Closing → List ℕ → Type 0
  EndsTo ending n (Ok done) s t whole others part = (others ≡ [])
      × (part ≡ text_of (last_text ending n)) × (t ≡ last_state s whole)
  EndsTo ending n (Err stop) s t whole [] part = IsTrue (is_some (last_text ending n))
      × CutBy stop part (text_of (last_text ending n)) × (t ≡ last_state s whole)
      × NoneIsOpen t.slots
  EndsTo ending n (Err stop) s t whole (c ∷ cs) part = CutBy stop part c.text × (t ≡ c.state)

  pub record EndsWith (ending : Ending Kind) (n : ℕ) (result : Result (Unit {0}) Stop)
      (s t : RunState) (old new : SinkState) : Type 0 where
    pub whole : List Closing
    pub others : List Closing
    pub among : wrapped_closings wrapped players (ending_status ending) s ≡ whole ++ others
    pub part : List ℕ
    pub written : new.written ≡ old.written ++ (closings_text whole ++ part)
    pub to : EndsTo ending n result s t whole others part
    pub calls : new.calls ≤ old.calls + length (closings_text whole ++ part) + 1
    pub calls_ok : OnOk result (new.calls ≤ old.calls + length (closings_text whole ++ part))

-- what contracts see of it, with real objects too
module _ {Kind : Type 0} (wrapped : List ℕ → List ℕ)
    (last_text : Ending Kind → ℕ → Option (List ℕ)) where
  pub record Finishes (ending : Ending Kind) (n : ℕ) (result : Result (Unit {0}) Stop)
      (old new : SessionSeen) (output : Object SinkState) : Type 0 where
    pub told : IsTrue output.tells → EndsWith wrapped last_text old.players ending n result
        (state old) (state new) output.old output.new
    pub none_open : OnOk result (NoneIsOpenIn new)
    pub went : Went (IsStatusOf (ending_status ending)) old new
    pub faults : RisesIf (has_write_fault result) output.faults_before output.faults_after
    pub sink_tells : output.tells_after ≡ output.tells

-- the calls that end the open transactions with this status
abbrev pub ClosesBy : List Player → Code → RunState → RunState → Type 0
ClosesBy players status s t =
    ProceedsBy (IsStatusOf status) (notes_of players) s.world.process.ledger (lists_of s.slots)
    t.world.process.ledger (lists_of t.slots)

-- after a stop all is ended, and nothing is written
pub record StopsSo (players : List Player) (stop : Stop) (s t : RunState) : Type 0 where
  pub closed : t ≡ all_closed players (stop_status stop) s
  pub closes : ClosesBy players (stop_status stop) s t

-- ---- the whole run, if all objects are modelled

module _ {Kind : Type 0} (looked : Looks) (asked : Asking Kind) (wrapped : List ℕ → List ℕ)
    (last_text : Ending Kind → ℕ → Option (List ℕ)) (step : Setting → ItemStep RunState Kind)
    (fails : Setting → ItemFails RunState) (setting : Setting) where
  -- the run ends
  pub record RunsOut (ending : Ending Kind) (start end : RunState) (x y : SourceState)
      (p q : SinkState) : Type 0 where
    pub items : ℕ
    pub last : RunState
    pub between : SinkState
    pub serves : TellsAll looked asked step fails setting (Ok ending) items start last x y p between
    pub takes : TakesBytes [] x y
    pub few : length last.slots ≤ 16
    pub ends : EndsWith wrapped last_text setting.players ending items (Ok tt) last end between q

  -- the run stops among its items
  pub record StopsEarly (stop : Stop) (start end : RunState) (x y : SourceState)
      (p q : SinkState) : Type 0 where
    pub items : ℕ
    pub last : RunState
    pub serves : TellsAll looked asked step fails setting (Err stop) items start last x y p q
    pub takes : TakesBytes [] x y
    pub stops : StopsSo setting.players stop last end

  -- the run stops after its items
  pub record StopsLate (stop : Stop) (start end : RunState) (x y : SourceState)
      (p q : SinkState) : Type 0 where
    pub ending : Ending Kind
    pub items : ℕ
    pub last : RunState
    pub middle : RunState
    pub between : SinkState
    pub serves : TellsAll looked asked step fails setting (Ok ending) items start last x y p between
    pub takes : TakesBytes [] x y
    pub ends : EndsWith wrapped last_text setting.players ending items (Err stop) last middle
        between q
    pub closes : ClosesBy setting.players (ending_status ending) last middle
    pub stops : StopsSo setting.players stop middle end

  abbrev pub RunsOrStops : Result (Ending Kind) Stop → RunState → RunState → SourceState
      → SourceState → SinkState → SinkState → Type 0
  RunsOrStops (Ok ending) start end x y p q = RunsOut ending start end x y p q
  RunsOrStops (Err stop) start end x y p q = StopsEarly stop start end x y p q
      ⊎ StopsLate stop start end x y p q

-- ---- what a protocol says about it

-- if all objects are modelled; if only the source is; that a run doesn't stop without a cause; and
-- which ends it makes
abbrev pub RunTold : Type 0 → Type 1
RunTold Kind = Setting → Result (Ending Kind) Stop → RunState → RunState → SourceState → SourceState
    → SinkState → SinkState → Type 0

abbrev pub RunRead : Type 0 → Type 1
RunRead Kind = Result (Ending Kind) Stop → SourceState → SourceState → Type 0

abbrev pub RunComplete : Type 0 → Type 1
RunComplete Kind = Result (Ending Kind) Stop → List ℕ → Type 0 → Type 0 → Type 0

abbrev pub RunEnd : Type 1
RunEnd = Bool → List ℕ → ℕ → ℕ → Type 0

module _ {Kind : Type 0} (looked : Looks) (asked : Asking Kind) (wrapped : List ℕ → List ℕ)
    (last_text : Ending Kind → ℕ → Option (List ℕ)) (step : Setting → ItemStep RunState Kind)
    (fails : Setting → ItemFails RunState) where
  -- what is known of any run leads to that
  abbrev pub RunsSo : RunTold Kind → Type 0
  RunsSo runs =
      (setting : Setting) (result : Result (Ending Kind) Stop) (start end : RunState)
      (x y : SourceState) (p q : SinkState)
      → RunsOrStops looked asked wrapped last_text step fails setting result start end x y p q
      → runs setting result start end x y p q

pub record ReadsSo {Kind : Type 0} (looked : Looks) (read_step : ItemStep (Unit {0}) Kind)
    (reads : RunRead Kind) : Type 0 where
  pub whole : (result : Result (Ending Kind) Stop) (m : ℕ) (x y : SourceState)
      → ReadsAll looked read_step result m x y → reads result x y
  pub left : (ending : Ending Kind) (stop : Stop) (m : ℕ) (x y : SourceState)
      → ReadsAll looked read_step (Ok ending) m x y → reads (Err stop) x y

pub record CompletesSo {Kind : Type 0} (looked : Looks) (read_step : ItemStep (Unit {0}) Kind)
    (completes : RunComplete Kind) : Type 0 where
  pub ended : (ending : Ending Kind) (m a b c d : ℕ) (x y : SourceState)
      → ReadsAll looked read_step (Ok ending) m x y
      → RisesIf (has_read_fault (Ok (Some ending))) a b
      → completes (Ok ending) x.left (Rose a b) (Rose c d)
  pub stopped : (stop : Stop) (input : List ℕ) (a b c d : ℕ)
      → RisesIf (has_write_fault {T = Ending Kind} (Err stop)) c d
      → completes (Err stop) input (Rose a b) (Rose c d)

pub record EndsSo {Kind : Type 0} (looked : Looks) (asked : Asking Kind) (is_end : RunEnd) : Type
    0 where
  pub by_item : (tells : Bool) (input : List ℕ) (number status : ℕ)
      → IsEndAmong looked asked tells 0 input number status → is_end tells input number status
  pub by_ending : (tells : Bool) (input : List ℕ) (ending : Ending Kind) (number status : ℕ)
      → IsStatusOf (ending_status ending) number status → is_end tells input number status
  pub by_stop : (tells : Bool) (input : List ℕ) (stop : Stop) (number status : ℕ)
      → IsStatusOf (stop_status stop) number status → is_end tells input number status

-- ---- what holds for every run

module _ {Kind : Type 0} (runs : RunTold Kind) (reads_so : RunRead Kind)
    (completes : RunComplete Kind) (is_end : RunEnd) where
  pub record Ran (time : Timing) (result : Result (Ending Kind) Stop) (old new : SessionSeen)
      (input : Object SourceState) (output : Object SinkState) : Type 0 where
    -- If all objects are modelled: what was read and written, and what library and world are afterwards.
    pub told : IsTrue time.tells → (delay : Code → ℕ → ℕ) → old.gives delay → AllTell old
        → IsTrue input.tells → IsTrue output.tells
        → runs (setting_at time.moments old delay) result (state old) (state new) input.old input.new
        output.old output.new
    -- A run stops early only if an allocation, a read or a write fails.
    pub complete : IsTrue input.tells → completes result input.old.left
        (Rose input.faults_before input.faults_after) (Rose output.faults_before output.faults_after)
    -- If only the source is modelled: how often it was read, and how the bytes that were read end the run. If only the
    -- sink is: how often it was written.
    pub reads : IsTrue input.tells → reads_so result input.old input.new
    pub writes : IsTrue output.tells → WritesScript output.old output.new
    -- With real objects too: all module data was cleaned up, and no transaction is open.
    pub none_open : NoneIsOpenIn new
    pub filed : (id : ℕ) → id < length new.world.process.ledger.births
        → is_filed new.world.process.ledger id ≡ true
    pub went : Went (is_end input.tells input.old.left) old new
    -- The causes, with real objects too.
    pub source_faults : IfOk result (λ (ending : Ending Kind). RisesIf (has_read_fault (Ok (Some ending)))
        input.faults_before input.faults_after)
    pub sink_faults : RisesIf (has_write_fault result) output.faults_before output.faults_after
    -- What is modelled before the run is modelled after it.
    pub source_tells : input.tells_after ≡ input.tells
    pub sink_tells : output.tells_after ≡ output.tells
