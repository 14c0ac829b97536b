-- What a call does to the data of a transaction and to the cleanup log, with real objects too (this project's own).
use Rattle.std.specs.Prelude.{◌≡◌, ℕ, ◌<◌, ◌≤◌, List, [], ◌∷◌, ◌++◌, length, map}
use Rattle.std.specs.List.{AllByRecursion}
use Rattle.data_cleanup.specs.Datum.{PlainDatum}
use Rattle.data_cleanup.specs.DataList.{PlainDataList, datum_of, with_datum, data_named}
use Rattle.data_cleanup.specs.Ledger.{PlainLedger}
use Rattle.data_cleanup.specs.Cleanup.{Notes, data_replace}
use Rattle.data_cleanup.specs.declared.datum.Birth.{Birth}
use Rattle.data_cleanup.specs.declared.receipt.Filed.{Filed}

-- the data that are set after some sets
abbrev pub with_births : List PlainDatum → List Birth → List PlainDatum
with_births live [] = live
with_births live (b ∷ bs) = with_births (with_datum live (datum_of b)) bs

-- the data that some sets replace, each with the id of the set that does
abbrev pub replacements : List PlainDatum → List Birth → List (PlainDatum × ℕ)
replacements live [] = []
replacements live (b ∷ bs) = map (λ (d : PlainDatum). (d, b.id)) (data_named live b.name)
    ++ replacements (with_datum live (datum_of b)) bs

-- the cleanup record of replaced data, logged after the set that replaced them
pub record IsSwept (note : Notes) (limit : ℕ) (r : PlainDatum × ℕ) (f : Filed) : Type 0 where
  pub id : f.receipt.id ≡ r.0.id
  pub status : f.receipt.status ≡ data_replace
  pub by_owner : f.receipt.note ≡ note r.0.owner r.0.payload data_replace
  pub after : r.1 < f.mark
  pub within : f.mark ≤ limit

-- all replaced data have their cleanup records, in order
abbrev pub AreSwept : Notes → ℕ → List (PlainDatum × ℕ) → List Filed → Type 0
AreSwept note limit [] [] = Unit {0}
AreSwept note limit (r ∷ rs) (f ∷ fs) = IsSwept note limit r f × AreSwept note limit rs fs
AreSwept note limit [] (f ∷ fs) = ⊥
AreSwept note limit (r ∷ rs) [] = ⊥

-- a set of this transaction, by one of n modules
pub record IsOf (modules handle : ℕ) (b : Birth) : Type 0 where
  pub handle_is : b.handle ≡ handle
  pub owner_is : b.owner < modules

-- Data of the list's transaction were set, and those that they replaced have their cleanup records.
pub record Grows (note : Notes) (modules : ℕ) (old : PlainDataList) (before : PlainLedger)
    (new : PlainDataList) (after : PlainLedger) : Type 0 where
  pub added : List Birth
  pub receipts : List Filed
  pub births : after.births ≡ before.births ++ added
  pub each : AllByRecursion (IsOf modules old.handle) added
  pub list : new ≡ record { handle = old.handle; live = with_births old.live added; gone = [] }
  pub filed : after.filed ≡ before.filed ++ receipts
  pub swept : AreSwept note (length after.births) (replacements old.live added) receipts
