-- Item by item: what was read from the source and written to the sink, whatever an item does.
use Rattle.std.specs.Prelude.{◌≡◌, ℕ, ◌+◌, ◌≤◌, ◌⊎◌, Bool, true, false, List, [], ◌∷◌, ◌++◌, length, drop, Option, Some, None, Result, Ok, Err, OnOk}
use Rattle.pam_outside.specs.Streams.{SourceState, SinkState}
use Rattle.record_reader.specs.declared.ending.Ending.{Ending}
use Rattle.record_reader.specs.declared.ending.Ending.TheVariants.{Done, ReadFault, Refused}
use Rattle.record_reader.specs.declared.ending.Stop.{Stop}
use Rattle.record_reader.specs.declared.ending.Stop.TheVariants.{NoMemory, WriteFault}
use Rattle.record_reader.specs.Run.{Looks, ItemFails, ItemStep, come_to, run_items, run_of}

-- ---- one item

module _ {State Kind : Type 0} (step : ItemStep State Kind) where
  -- a write failed: the item was applied, and a prefix of its text is written
  pub record IsCutShort (n : ℕ) (item : List ℕ) (c d : State) (written : List ℕ) : Type 0 where
    pub text : List ℕ
    pub applied : step n c item ≡ Ok (d, text)
    pub more : List ℕ
    pub parts : text ≡ written ++ more

module _ {State Kind : Type 0} (step : ItemStep State Kind) (Fails : ItemFails State) where
  -- out of memory: the item isn't a refused one; either it was applied, or its call ran out of memory
  pub record IsBegun (n : ℕ) (item : List ℕ) (c d : State) : Type 0 where
    pub after : State
    pub text : List ℕ
    pub accepted : step n c item ≡ Ok (after, text)
    pub state : (d ≡ after) ⊎ Fails n c item d

  -- how a run stops, and in which item if it began one
  abbrev pub StopsAt : Stop → ℕ → Option (List ℕ) → State → State → List ℕ → Type 0
  StopsAt WriteFault n None c d written = ⊥
  StopsAt WriteFault n (Some item) c d written = IsCutShort step n item c d written
  StopsAt NoMemory n None c d written = (d ≡ c) × (written ≡ [])
  StopsAt NoMemory n (Some item) c d written = IsBegun n item c d × (written ≡ [])

  -- One item is served: it is applied and its text is written; it is refused and nothing happens; or
  -- the run stops in it or before it.
  abbrev pub Serves : Result (Option Kind) Stop → ℕ → List ℕ → State → State → List ℕ → Type 0
  Serves (Ok None) n item c d written = step n c item ≡ Ok (d, written)
  Serves (Ok (Some kind)) n item c d written = (step n c item ≡ Err kind) × (d ≡ c)
      × (written ≡ [])
  Serves (Err stop) n item c d written = StopsAt stop n (Some item) c d written
      ⊎ StopsAt stop n None c d written

  -- what a modelled sink holds after it
  pub record ServesItem (result : Result (Option Kind) Stop) (n : ℕ) (item : List ℕ) (c d : State)
      (old new : SinkState) : Type 0 where
    pub text : List ℕ
    pub written : new.written ≡ old.written ++ text
    pub served : Serves result n item c d text
    pub calls : new.calls ≤ old.calls + length text + 1
    pub calls_ok : OnOk result (new.calls ≤ old.calls + length text)

-- ---- many items

abbrev pub refusal_of : {Kind : Type 0} → Ending Kind → Option Kind
refusal_of Done = None
refusal_of ReadFault = None
refusal_of (Refused kind) = Some kind

-- whether the input ends after the bytes read
abbrev pub IsEndedBy : {Kind : Type 0} → Ending Kind → Bool → Type 0
IsEndedBy Done ended = ended ≡ true
IsEndedBy ReadFault ended = ended ≡ false
IsEndedBy (Refused kind) ended = Unit {0}

module _ {State Kind : Type 0} (looked : Looks) (step : ItemStep State Kind) where
  -- The complete items among the bytes read were served. Whatever follows, the run continues with the bytes held.
  pub record GoesOn (n m : ℕ) (c d : State) (met held text : List ℕ) : Type 0 where
    pub served : List (List ℕ)
    pub number : m ≡ n + length served
    pub among : (more : List ℕ) (ended : Bool) → looked n (met ++ more) ended ≡ served
        ++ looked m (held ++ more) ended
    pub run : run_items step n c served ≡ come_to text d m None

  -- the run over the bytes read has ended
  pub record EndsBy (ending : Ending Kind) (n m : ℕ) (c d : State)
      (met left text : List ℕ) : Type 0 where
    pub ended : Bool
    pub at_end : ended ≡ true → left ≡ []
    pub by : IsEndedBy ending ended
    pub run : run_of looked step n c met ended ≡ come_to text d m (refusal_of ending)

  -- the last read, by its result, after other bytes: it read at most a buffer, and nothing before it was refused
  pub record LastRead (n : ℕ) (c : State) (before got : List ℕ) : Type 0 where
    pub early : List ℕ
    pub late : List ℕ
    pub parts : got ≡ early ++ late
    pub room : length late ≤ 512
    pub accepted : (run_of looked step n c (before ++ early) false).refused ≡ None

abbrev pub begun_items : Option (List ℕ) → List (List ℕ)
begun_items None = []
begun_items (Some item) = item ∷ []

-- Where a run is, before a turn or after it: so many items were applied, and led to this state; these bytes were read
-- and not consumed yet; and what source and sink hold.
pub record Place (State : Type 0) : Type 0 where
  pub items : ℕ
  pub state : State
  pub held : List ℕ
  pub source : SourceState
  pub sink : SinkState

abbrev pub place : {State : Type 0} → ℕ → State → List ℕ → SourceState → SinkState → Place State
place items state held source sink = record {
  items = items;
  state = state;
  held = held;
  source = source;
  sink = sink;
}

module _ {State Kind : Type 0} (looked : Looks) (step : ItemStep State Kind)
    (Fails : ItemFails State) where
  -- The run has stopped: the first items, of the bytes read and of the whole input alike, were served completely, so m
  -- items precede what follows, and at most one more item was begun.
  pub record StopsBy (stop : Stop) (n m : ℕ) (c d : State) (met left text : List ℕ) : Type 0 where
    pub served : List (List ℕ)
    pub begun : Option (List ℕ)
    pub number : m ≡ n + length served
    pub ended : Bool
    pub at_end : ended ≡ true → left ≡ []
    pub others_met : List (List ℕ)
    pub among_met : looked n met ended ≡ served ++ begun_items begun ++ others_met
    pub others : List (List ℕ)
    pub among_all : looked n (met ++ left) true ≡ served ++ begun_items begun ++ others
    pub middle : State
    pub whole : List ℕ
    pub part : List ℕ
    pub run : run_items step n c served ≡ come_to whole middle m None
    pub parts : text ≡ whole ++ part
    pub stopped : StopsAt step Fails stop m begun middle d part

  -- what was written for the bytes read so far
  abbrev pub Tells : Result (Option (Ending Kind)) Stop → ℕ → ℕ → State → State → List ℕ → List ℕ
      → List ℕ → List ℕ → Type 0
  Tells (Ok None) n m c d met held left text = GoesOn looked step n m c d met held text
  Tells (Ok (Some ending)) n m c d met held left text =
      EndsBy looked step ending n m c d met left text
  Tells (Err stop) n m c d met held left text = StopsBy stop n m c d met left text

  -- what was read and written in one turn or several, from one place to another
  pub record Turns (result : Result (Option (Ending Kind)) Stop) (old new : Place State) : Type 0 where
    pub got : List ℕ
    pub text : List ℕ
    pub source : old.source.left ≡ got ++ new.source.left
    pub sink : new.sink.written ≡ old.sink.written ++ text
    pub tells : Tells result old.items new.items old.state new.state (old.held ++ got) new.held
        new.source.left text
    pub reads : new.source.calls ≤ old.source.calls + length got + 1
    pub reads_on : result ≡ Ok None → new.source.calls ≤ old.source.calls + length got
    pub ends : new.source.reads_at_end ≤ old.source.reads_at_end + 1
    pub ends_on : result ≡ Ok None → new.source.reads_at_end ≤ old.source.reads_at_end
    pub last : (got ≡ []) ⊎ LastRead looked step old.items old.state old.held got
    pub calls : new.sink.calls ≤ old.sink.calls + length text + 1
    pub calls_ok : OnOk result (new.sink.calls ≤ old.sink.calls + length text)

-- ---- the result of a turn

-- after an item with its terminator the run continues
abbrev pub after_item : {Kind : Type 0} → Result (Option Kind) Stop
    → Result (Option (Ending Kind)) Stop
after_item (Ok None) = Ok None
after_item (Ok (Some kind)) = Ok (Some (Refused kind))
after_item (Err stop) = Err stop

-- the last item, without a terminator, ends the run
abbrev pub after_rest : {Kind : Type 0} → Result (Option Kind) Stop
    → Result (Option (Ending Kind)) Stop
after_rest (Ok None) = Ok (Some Done)
after_rest (Ok (Some kind)) = Ok (Some (Refused kind))
after_rest (Err stop) = Err stop

-- how many items were applied
abbrev pub items_after : {Kind : Type 0} → Result (Option Kind) Stop → ℕ → ℕ
items_after (Ok None) n = n + 1
items_after result n = n

-- the bytes held after an item of n bytes: its terminator is dropped with it
abbrev pub held_after : {Kind : Type 0} → Result (Option Kind) Stop → ℕ → List ℕ → List ℕ
held_after (Ok None) size held = drop size held
held_after result size held = held

-- whether a read, or a write, failed
abbrev pub has_read_fault : {Kind : Type 0} → Result (Option (Ending Kind)) Stop → Bool
has_read_fault (Ok (Some ReadFault)) = true
has_read_fault result = false

abbrev pub has_write_fault : {T : Type 0} → Result T Stop → Bool
has_write_fault (Err WriteFault) = true
has_write_fault result = false
