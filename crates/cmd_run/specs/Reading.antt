-- What the bytes of a script alone say about a run of it, whatever its lines do; and what was
-- written (this project's own).
use Rattle.std.specs.Prelude.{◌≡◌, ℕ, ◌+◌, ◌≤◌, ◌<◌, All, Bool, true, false, List, [], ◌++◌, length, Option, Some, None, Result, Ok, Err, OnOk}
use Rattle.pam_base.specs.declared.fault.ScriptKind.{ScriptKind}
use Rattle.pam_outside.specs.Streams.{SourceState, SinkState}
use Rattle.script_lang.specs.declared.line.Line.{Line}
use Rattle.script_lang.specs.Line.{parsed}
use Rattle.record_reader.specs.declared.ending.Ending.{Ending as StreamEnding}
use Rattle.record_reader.specs.declared.ending.Ending.TheVariants.{Done, ReadFault, Refused}
use Rattle.record_reader.specs.declared.ending.Stop.{Stop}
use Rattle.record_reader.specs.Laws.{EndIsTurn, FaultIsTurn, ItemIsTurn, NoTurnYet, RestIsTurn, StopsAtOnce, TurnsAreRun, TurnsGoOn}
use Rattle.record_reader.specs.Run.{ItemFails, ItemStep, Looks, Refuses}
use Rattle.record_reader.specs.Turns.{ServesItem, Turns, place}
use Rattle.record_reader.specs.Whole.{Runs}
use Rattle.record_reader.specs.LineRun.{LineStep, run_of}
use Rattle.record_reader.specs.LineTurns.{Ending}
use Rattle.cmd_run.specs.State.{RunState, Setting}
use Rattle.cmd_run.specs.Step.{line_step}

-- ---- what is read

-- an item is refused, or it isn't
abbrev pub read_as : {Kind : Type 0} → Result Line Kind → Result (Unit {0} × List ℕ) Kind
read_as (Ok line) = Ok (tt, [])
read_as (Err kind) = Err kind

unfoldable pub line_read : LineStep (Unit {0})
line_read n done line = read_as (parsed line)

-- why a line among some bytes is refused, if one is; whether the input ends after them
abbrev pub refused_in : List ℕ → Bool → Option ScriptKind
refused_in bytes ended = (run_of line_read 0 tt bytes ended).refused

-- a run refuses the same line, whatever its lines do and whatever state it begins in
pub record RefusesByBytes : Type 0 where
  pub refused : (setting : Setting) (start : RunState) (bytes : List ℕ) (ended : Bool)
      → (run_of (line_step setting) 0 start bytes ended).refused ≡ refused_in bytes ended
  pub lines : (setting : Setting) (start : RunState) (bytes : List ℕ) (ended : Bool)
      → (run_of (line_step setting) 0 start bytes ended).items
      ≡ (run_of line_read 0 tt bytes ended).items

-- any state is possible
abbrev pub AnyState : ItemFails (Unit {0})
AnyState n before line after = Unit {0}

-- a sink to which nothing is written
abbrev pub nowhere : SinkState
nowhere = record { written = []; calls = 0 }

-- what was taken after these consists of bytes
pub record TakesBytes (before : List ℕ) (x y : SourceState) : Type 0 where
  pub got : List ℕ
  pub source : x.left ≡ got ++ y.left
  pub bytes : All (λ b. b < 256) (before ++ got)

-- one item, one turn and many, for a sink to which nothing is written
abbrev pub ReadsItem : {Kind : Type 0} → ItemStep (Unit {0}) Kind → Result (Option Kind) Stop → ℕ
    → List ℕ → Type 0
ReadsItem step result n item = ServesItem step AnyState result n item tt tt nowhere nowhere

module _ {Kind : Type 0} (looked : Looks) (step : ItemStep (Unit {0}) Kind) where
  pub record ReadsTurn (result : Result (Option (StreamEnding Kind)) Stop) (n m : ℕ)
      (before held : List ℕ) (x y : SourceState) : Type 0 where
    pub turns : Turns looked step AnyState result (place n tt before x nowhere)
        (place m tt held y nowhere)
    pub takes : TakesBytes before x y

  pub record ReadsAll (result : Result (StreamEnding Kind) Stop) (m : ℕ)
      (x y : SourceState) : Type 0 where
    pub runs : Runs looked step AnyState result m tt tt x y nowhere nowhere
    pub takes : TakesBytes [] x y

-- the laws on turns, for a stream of which only the source is modelled
pub record ReadingIsTurns {Kind : Type 0} (looked : Looks) (refuses : Refuses)
    (step : ItemStep (Unit {0}) Kind) : Type 0 where
  pub none_yet : NoTurnYet looked step AnyState
  pub no_memory : StopsAtOnce looked step AnyState
  pub fault : FaultIsTurn looked refuses step AnyState
  pub end : EndIsTurn looked refuses step AnyState
  pub item : ItemIsTurn looked refuses step AnyState
  pub rest : RestIsTurn looked refuses step AnyState
  pub on : TurnsGoOn looked step AnyState
  pub run : TurnsAreRun looked step AnyState

-- how a run ends, by the bytes: at the end of a script of which no line is refused; at the first line that is; or
-- after lines that aren't
abbrev pub EndsAtBytes : Result Ending Stop → List ℕ → List ℕ → List ℕ → Type 0
EndsAtBytes (Ok Done) script taken left = (refused_in script true ≡ None) × (left ≡ [])
EndsAtBytes (Ok (Refused kind)) script taken left = refused_in script true ≡ Some kind
EndsAtBytes (Ok ReadFault) script taken left = refused_in taken false ≡ None
EndsAtBytes (Err stop) script taken left = Unit {0}

-- what was taken, with at most one read more than it has bytes
pub record ReadsScript (result : Result Ending Stop) (x y : SourceState) : Type 0 where
  pub taken : List ℕ
  pub source : x.left ≡ taken ++ y.left
  pub reads : y.calls ≤ x.calls + length taken + 1
  pub ends : y.reads_at_end ≤ x.reads_at_end + 1
  pub by : EndsAtBytes result x.left taken y.left

-- ---- what is written

-- some bytes were written, with at most one more call than there are bytes; without that one if
-- nothing failed
pub record WritesSome {T : Type 0} (result : Result T Stop) (p q : SinkState) : Type 0 where
  pub text : List ℕ
  pub written : q.written ≡ p.written ++ text
  pub calls : q.calls ≤ p.calls + length text + 1
  pub calls_ok : OnOk result (q.calls ≤ p.calls + length text)

-- the same for a whole run
pub record WritesScript (p q : SinkState) : Type 0 where
  pub text : List ℕ
  pub written : q.written ≡ p.written ++ text
  pub calls : q.calls ≤ p.calls + length text + 1
