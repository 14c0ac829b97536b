-- What relates a cleanup log to the data lists of the transactions, whatever the events were (this project's own).
use Rattle.std.specs.Prelude.{◌≡◌, ℕ, ◌<◌, List, length}
use Rattle.std.specs.List.{AllByRecursion}
use Rattle.data_cleanup.specs.Datum.{PlainDatum}
use Rattle.data_cleanup.specs.DataList.{datum_of}
use Rattle.data_cleanup.specs.Ledger.{PlainLedger}
use Rattle.data_cleanup.specs.declared.datum.Birth.{Birth}
use Rattle.data_cleanup.specs.Modelled.{EachOnce, Lists, clean_list}

-- data that were set in this transaction, by one of n modules
pub record IsOfHandle (modules handle : ℕ) (births : List Birth) (d : PlainDatum) : Type 0 where
  pub below : d.id < length births
  pub owner : d.owner < modules
  pub is : AllByRecursion (λ (b : Birth). b.id ≡ d.id → (datum_of b ≡ d)
      × (b.handle ≡ handle)) births

-- The data without a cleanup record are exactly those in the lists, each in the list of its own transaction, and none
-- waits for its cleanup.
pub record AreHeld (modules limit : ℕ) (ledger : PlainLedger) (lists : Lists) : Type 0 where
  pub once : EachOnce limit ledger (λ (handle : ℕ). (lists handle).live)
  pub each : (handle : ℕ)
      → AllByRecursion (IsOfHandle modules handle ledger.births) (lists handle).live
  pub clean : (handle : ℕ) → lists handle ≡ clean_list handle (lists handle).live
