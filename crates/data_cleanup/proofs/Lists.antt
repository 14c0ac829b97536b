-- The laws are proved first for the lists of the data that are set, without those that wait for
-- their cleanup.
use Rattle.std.proofs.Common.{◌≡◌, ℕ, List, ◌++◌, length, ap, subst}
use Rattle.std.specs.List.{AllByRecursion}
use Rattle.data_cleanup.specs.Datum.{PlainDatum}
use Rattle.data_cleanup.specs.DataList.{PlainDataList}
use Rattle.data_cleanup.specs.Ledger.{PlainLedger}
use Rattle.data_cleanup.specs.Cleanup.{Notes}
use Rattle.data_cleanup.specs.Grows.{with_births, replacements, AreSwept, IsOf, Grows}
use Rattle.data_cleanup.specs.Tidy.{Tidy}
use Rattle.data_cleanup.specs.Due.{Event, due}
use Rattle.data_cleanup.specs.declared.datum.Birth.{Birth}
use Rattle.data_cleanup.specs.declared.receipt.Filed.{Filed}
use Rattle.data_cleanup.specs.Holding.{data_held}
use Rattle.data_cleanup.specs.Modelled.{EachOnce, births_of, receipts_in}
use Rattle.data_cleanup.specs.Kept.{IsOfHandle}

pub record GrowsLive (note : Notes) (modules handle : ℕ) (old : List PlainDatum) (before : PlainLedger) (new : List PlainDatum) (after : PlainLedger) : Type 0 where
  pub added : List Birth
  pub receipts : List Filed
  pub births : after.births ≡ before.births ++ added
  pub each : AllByRecursion (IsOf modules handle) added
  pub live : new ≡ with_births old added
  pub filed : after.filed ≡ before.filed ++ receipts
  pub swept : AreSwept note (length after.births) (replacements old added) receipts

pub record StandLive (note : Notes) (limit : ℕ) (ledger : PlainLedger) (lists : ℕ → List PlainDatum) (events : List Event) : Type 0 where
  pub births : ledger.births ≡ births_of events
  pub receipts : receipts_in ledger.filed ≡ due note events
  pub tidy : Tidy note ledger
  pub lists_are : (handle : ℕ) → lists handle ≡ data_held handle events
  pub once : EachOnce limit ledger lists

pub record HeldLive (modules limit : ℕ) (ledger : PlainLedger) (lists : ℕ → List PlainDatum) : Type 0 where
  pub once : EachOnce limit ledger lists
  pub each : (handle : ℕ) → AllByRecursion (IsOfHandle modules handle ledger.births) (lists handle)

abbrev pub grows_live : (note : Notes) (modules handle : ℕ) (old new : PlainDataList) (before after : PlainLedger) → old.handle ≡ handle
    → Grows note modules old before new after → GrowsLive note modules handle old.live before new.live after
grows_live note modules handle old new before after own g = record {
  added = g.added;
  receipts = g.receipts;
  births = g.births;
  each = subst (λ n. AllByRecursion (IsOf modules n) g.added) own g.each;
  live = ap (λ (l : PlainDataList). l.live) g.list;
  filed = g.filed;
  swept = g.swept;
}
