-- Data are cleaned up, one after another (the cleanup function of pam_set_data(3); that its result is a number is this
-- project's own).
use Rattle.std.specs.Prelude.{◌≡◌, ℕ, ◌+◌, ◌<◌, ◌≤◌, nat_eq, if◌then◌else◌, List, [], ◌∷◌, ◌++◌, length, map}
use Rattle.std.specs.List.{AllByRecursion}
use Rattle.data_cleanup.specs.Datum.{PlainDatum}
use Rattle.data_cleanup.specs.DataList.{PlainDataList}
use Rattle.data_cleanup.specs.Ledger.{PlainLedger, IsOutstanding}
use Rattle.data_cleanup.specs.declared.receipt.Filed.{Filed}

-- PAM_DATA_REPLACE, the status passed to the cleanup of replaced data
abbrev pub data_replace : ℕ
data_replace = 0x20000000

-- the number that a cleanup returns, by the number of the data's owner, the text of the data and the status
abbrev pub Notes : Type 0
Notes = ℕ → List ℕ → ℕ → ℕ

-- the cleanup records of data that are cleaned up with a status, in order, at this position
abbrev pub receipts_for : Notes → ℕ → ℕ → List PlainDatum → List Filed
receipts_for note status mark ds =
    map (λ (d : PlainDatum).
    record {
      receipt = record { id = d.id; status = status; note = note d.owner d.payload status };
      mark = mark;
    }) ds

-- the cleanup log after that
abbrev pub ledger_after : Notes → ℕ → List PlainDatum → PlainLedger → PlainLedger
ledger_after note status ds ledger = record {
  births = ledger.births;
  filed = ledger.filed ++ receipts_for note status (length ledger.births) ds;
}

-- A sweep cleans up what was replaced: the list after it, and the cleanup log.
abbrev pub swept_list : PlainDataList → PlainDataList
swept_list list = record list { gone = [] }

abbrev pub swept_ledger : Notes → PlainDataList → PlainLedger → PlainLedger
swept_ledger note list ledger = ledger_after note data_replace list.gone ledger

-- some data are being cleaned up with a status: the records so far and those still to come,
-- together, are all of them
pub record IsCleaningUp (note : Notes) (status : ℕ) (before : PlainLedger) (all : List PlainDatum)
    (now : PlainLedger) (left : List PlainDatum) : Type 0 where
  pub births : now.births ≡ before.births
  pub filed : now.filed ++ receipts_for note status (length before.births) left ≡ before.filed
      ++ receipts_for note status (length before.births) all

-- the cleanup log after one more record
abbrev pub ledger_with : PlainLedger → ℕ → ℕ → ℕ → PlainLedger
ledger_with ledger id status note = record {
  births = ledger.births;
  filed = ledger.filed ++ record {
    receipt = record { id = id; status = status; note = note };
    mark = length ledger.births;
  } ∷ [];
}

-- data that were set and have no cleanup record, and whose owner is one of n modules
pub record AwaitsCleanup (modules : ℕ) (ledger : PlainLedger) (d : PlainDatum) : Type 0 where
  pub outstanding : IsOutstanding ledger d.id
  pub owner : d.owner < modules

-- how often an id occurs in a list
abbrev pub times : ℕ → List PlainDatum → ℕ
times id [] = 0
times id (d ∷ ds) = (if nat_eq d.id id then 1 else 0) + times id ds

-- data that are all such, and none twice
pub record AwaitCleanup (modules : ℕ) (ledger : PlainLedger) (ds : List PlainDatum) : Type 0 where
  pub each : AllByRecursion (AwaitsCleanup modules ledger) ds
  pub once : (id : ℕ) → times id ds ≤ 1
