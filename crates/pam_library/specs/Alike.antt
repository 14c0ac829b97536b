-- The result of a transaction doesn't depend on the others (this project's own): what two states of a run have in
-- common for one number, so that each call on it has the same result in both.
use Rattle.std.specs.Prelude.{◌≡◌, ℕ, false, nat_eq, if◌then◌else◌, List, [], ◌∷◌, map, drop, Option, Some, None, slice_get}
use Rattle.std.specs.List.{AllByRecursion, flat_map}
use Rattle.std.specs.Option.{option_map}
use Rattle.data_cleanup.specs.Datum.{PlainDatum}
use Rattle.data_cleanup.specs.DataList.{PlainDataList, birth_of}
use Rattle.data_cleanup.specs.Ledger.{PlainLedger}
use Rattle.data_cleanup.specs.declared.datum.Birth.{Birth}
use Rattle.data_cleanup.specs.declared.receipt.Filed.{Filed}
use Rattle.data_cleanup.specs.declared.receipt.Receipt.{Receipt}
use Rattle.pam_outside.specs.Files.{File, VaultState}
use Rattle.pam_outside.specs.Time.{Time, time_of}
use Rattle.pam_handle.specs.pam_room.specs.Module.{failing_of}
use Rattle.pam_handle.specs.pam_room.specs.State.{PlainRoom, PlainWorld}
use Rattle.pam_handle.specs.Handle.{in_room}
use Rattle.pam_library.specs.Outcome.{PlainOutcome}
use Rattle.pam_library.specs.Slots.{PlainSlot, closed, opened, slot_at}
use Rattle.pam_library.specs.Step.{Stepped}

-- ---- what is left of sets, data and outcomes without the ids of the cleanup log

abbrev pub birth_without_id : Birth → Birth
birth_without_id b = record b { id = 0 }

abbrev pub datum_without_id : PlainDatum → PlainDatum
datum_without_id d = record d { id = 0 }

abbrev pub data_without_ids : PlainDataList → PlainDataList
data_without_ids l = record {
  handle = l.handle;
  live = map datum_without_id l.live;
  gone = map datum_without_id l.gone;
}

abbrev pub room_without_ids : PlainRoom → PlainRoom
room_without_ids r = record r {
  transaction = record r.transaction
      { datums = data_without_ids r.transaction.datums };
}

abbrev pub slot_without_ids : PlainSlot → PlainSlot
slot_without_ids (closed conv) = closed conv
slot_without_ids (opened h) = opened (in_room (room_without_ids h.room) h)

-- what a step reported and returned, without the number of cleanup records before it
abbrev pub told_in : PlainOutcome → PlainOutcome
told_in outcome = record outcome { filed_from = 0 }

-- ---- the part of a cleanup log that concerns one number

-- a set, if it is of this number
abbrev pub own_birth : ℕ → Birth → List Birth
own_birth number b = if nat_eq b.handle number then birth_without_id b ∷ [] else []

-- the sets of a number, in their order and without their ids
abbrev pub births_on : ℕ → List Birth → List Birth
births_on number births = flat_map (own_birth number) births

-- a cleanup, without id and position: the set of its data, the status and the owner's result
pub record Cleaned : Type 0 where
  pub birth : Birth
  pub status : ℕ
  pub note : ℕ

-- a cleanup record, if its set is of this number
abbrev pub own_receipt : ℕ → Option Birth → Receipt → List Cleaned
own_receipt number None receipt = []
own_receipt number (Some b) receipt = if nat_eq b.handle number
    then record { birth = birth_without_id b; status = receipt.status; note = receipt.note } ∷ []
    else []

-- sets are numbered by their positions, from 0
abbrev pub own_filed : ℕ → List Birth → Filed → List Cleaned
own_filed number births f = own_receipt number (slice_get births f.receipt.id) f.receipt

-- the cleanup records of a number's sets, in their order and without ids and positions
abbrev pub receipts_on : ℕ → PlainLedger → List Cleaned
receipts_on number ledger = flat_map (own_filed number ledger.births) ledger.filed

-- a cleanup record, whichever number its set belongs to
abbrev pub cleaned_by : Option Birth → Receipt → List Cleaned
cleaned_by None receipt = []
cleaned_by (Some b) receipt = record {
  birth = birth_without_id b;
  status = receipt.status;
  note = receipt.note;
} ∷ []

abbrev pub cleaned_as : List Birth → Filed → List Cleaned
cleaned_as births f = cleaned_by (slice_get births f.receipt.id) f.receipt

-- the cleanup records after the first n, in their order and without ids and positions
abbrev pub cleaned_after : ℕ → PlainLedger → List Cleaned
cleaned_after filed_from ledger =
    flat_map (cleaned_as ledger.births) (drop filed_from ledger.filed)

-- ---- what a transaction sees of a world, and what the cleanup log has of it

pub record Shown : Type 0 where
  pub files : List File
  pub clock : Time
  pub root : List ℕ
  pub caller : ℕ
  pub births : List Birth
  pub receipts : List Cleaned

abbrev pub shown_to : ℕ → PlainWorld → Shown
shown_to number w = record {
  files = w.vault.files;
  clock = time_of w.clock;
  root = w.process.root;
  caller = w.process.caller;
  births = births_on number w.process.ledger.births;
  receipts = receipts_on number w.process.ledger;
}

-- no file access from now on is planned to fail
abbrev pub NoCallFails : VaultState → Type 0
NoCallFails vault = (k : ℕ) → failing_of vault k ≡ false

-- ---- slots and a cleanup log that belong together

-- module data of a number are among the sets at the position of their id
abbrev pub IsRecorded : ℕ → List Birth → PlainDatum → Type 0
IsRecorded number births d = slice_get births d.id
    ≡ Some (birth_of d.id number d.owner d.name d.payload)

pub record AreRecorded (number : ℕ) (births : List Birth) (handle : ℕ) (l : PlainDataList) : Type
    0 where
  pub handle_is : handle ≡ number
  pub live : AllByRecursion (IsRecorded number births) l.live
  pub gone : AllByRecursion (IsRecorded number births) l.gone

abbrev pub IsRecordedAt : ℕ → List Birth → PlainSlot → Type 0
IsRecordedAt number births (closed conv) = Unit {0}
IsRecordedAt number births (opened h) =
    AreRecorded number births h.room.transaction.handle h.room.transaction.datums

-- a cleanup record has the id of a set
abbrev pub IsOfBirth : List Birth → Filed → Type 0
IsOfBirth births f = (b : Birth) × (slice_get births f.receipt.id ≡ Some b)

-- each open transaction has the number of its slot, its data are sets of that number, and each cleanup record is of a
-- set
pub record AreInOrder (slots : List PlainSlot) (ledger : PlainLedger) : Type 0 where
  pub filed : AllByRecursion (IsOfBirth ledger.births) ledger.filed
  pub each : (number : ℕ) (slot : PlainSlot) → slot_at slots number ≡ Some slot
      → IsRecordedAt number ledger.births slot

-- ---- two states of a run are alike for a number

pub record AreAlike (number : ℕ) (slots : List PlainSlot) (w : PlainWorld) (others : List PlainSlot)
    (v : PlainWorld) : Type 0 where
  pub place : option_map slot_without_ids (slot_at slots number)
      ≡ option_map slot_without_ids (slot_at others number)
  pub shown : shown_to number w ≡ shown_to number v
  pub first_order : AreInOrder slots w.process.ledger
  pub second_order : AreInOrder others v.process.ledger
  pub first_quiet : NoCallFails w.vault
  pub second_quiet : NoCallFails v.vault

-- a call on a number has the same result in both: what it reported and returned, what it cleaned
-- up, and what it left are alike
pub record ComeToSame (number : ℕ) (a b : Stepped) : Type 0 where
  pub told : told_in a.outcome ≡ told_in b.outcome
  pub cleaned : cleaned_after a.outcome.filed_from a.world.process.ledger
      ≡ cleaned_after b.outcome.filed_from b.world.process.ledger
  pub alike : AreAlike number a.slots a.world b.slots b.world
