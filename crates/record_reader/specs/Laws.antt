-- How finding items and applying them, turn by turn, makes up a run, whatever an item does.
use Rattle.std.specs.Prelude.{ℕ, List, [], take, Option, Some, None, Result, Ok, Err}
use Rattle.pam_base.specs.declared.fault.Failed.{Failed}
use Rattle.pam_outside.specs.Streams.{SourceState, SinkState}
use Rattle.record_reader.specs.declared.reader.NextItem.TheVariants.{Item, Rest, End}
use Rattle.record_reader.specs.declared.ending.Ending.{Ending}
use Rattle.record_reader.specs.declared.ending.Ending.TheVariants.{Done, ReadFault}
use Rattle.record_reader.specs.declared.ending.Stop.{Stop}
use Rattle.record_reader.specs.declared.ending.Stop.TheVariants.{NoMemory}
use Rattle.record_reader.specs.Run.{Looks, Refuses, ItemFails, ItemStep}
use Rattle.record_reader.specs.Taking.{Finds, IsFound}
use Rattle.record_reader.specs.Turns.{ServesItem, Turns, place, after_item, after_rest, items_after, held_after}
use Rattle.record_reader.specs.Whole.{at_last, Runs}

module _ {State Kind : Type 0} (looked : Looks) (step : ItemStep State Kind)
    (Fails : ItemFails State) where
  -- ---- before the first byte

  abbrev pub NoTurnYet : Type 0
  NoTurnYet = (c : State) (x : SourceState) (p : SinkState)
      → Turns looked step Fails (Ok None) (place 0 c [] x p) (place 0 c [] x p)

  -- out of memory
  abbrev pub StopsAtOnce : Type 0
  StopsAtOnce = (c : State) (x : SourceState) (p : SinkState)
      → Turns looked step Fails (Err NoMemory) (place 0 c [] x p) (place 0 c [] x p)

  -- ---- turns

  -- turns, followed by others
  abbrev pub TurnsGoOn : Type 0
  TurnsGoOn = (result : Result (Option (Ending Kind)) Stop) (n m k : ℕ) (c d e : State)
      (held rest : List ℕ) (x y z : SourceState) (p q s : SinkState) →
      Turns looked step Fails (Ok None) (place n c [] x p) (place m d held y q)
      → Turns looked step Fails result (place m d held y q) (place k e rest z s) →
      Turns looked step Fails result (place n c [] x p) (place k e rest z s)

  -- turns from the first byte to the last
  abbrev pub TurnsAreRun : Type 0
  TurnsAreRun = (result : Result (Ending Kind) Stop) (m : ℕ) (c d : State) (held : List ℕ)
      (x y : SourceState) (p q : SinkState) →
      Turns looked step Fails (at_last result) (place 0 c [] x p) (place m d held y q)
      → Runs looked step Fails result m c d x y p q

module _ {State Kind : Type 0} (looked : Looks) (refuses : Refuses) (step : ItemStep State Kind)
    (Fails : ItemFails State) where
  -- ---- each result of a search is a turn

  -- the source failed
  abbrev pub FaultIsTurn : Type 0
  FaultIsTurn = (n : ℕ) (before held : List ℕ) (e : Failed) (c : State) (x y : SourceState)
      (p : SinkState) →
      IsFound looked (Err e) n held → Finds looked refuses (Err e) n before held x y →
      Turns looked step Fails (Ok (Some ReadFault)) (place n c before x p) (place n c held y p)

  -- the source has ended, and nothing is left
  abbrev pub EndIsTurn : Type 0
  EndIsTurn = (n : ℕ) (before held : List ℕ) (c : State) (x y : SourceState) (p : SinkState) →
      IsFound looked (Ok End) n held → Finds looked refuses (Ok End) n before held x y →
      Turns looked step Fails (Ok (Some Done)) (place n c before x p) (place n c held y p)

  -- an item with its terminator was found and applied
  abbrev pub ItemIsTurn : Type 0
  ItemIsTurn = (n item_size size : ℕ) (before held : List ℕ) (c d : State) (x y : SourceState)
      (p q : SinkState) (result : Result (Option Kind) Stop) →
      IsFound looked (Ok (Item item_size size)) n held
      → Finds looked refuses (Ok (Item item_size size)) n before held x y →
      ServesItem step Fails result n (take item_size held) c d p q →
      Turns looked step Fails (after_item result) (place n c before x p) (place (items_after result n) d (held_after result size held) y q)

  -- the last item was found and applied
  abbrev pub RestIsTurn : Type 0
  RestIsTurn = (n : ℕ) (before held : List ℕ) (c d : State) (x y : SourceState) (p q : SinkState)
      (result : Result (Option Kind) Stop) →
      IsFound looked (Ok Rest) n held → Finds looked refuses (Ok Rest) n before held x y →
      ServesItem step Fails result n held c d p q →
      Turns looked step Fails (after_rest result) (place n c before x p) (place (items_after result n) d held y q)
