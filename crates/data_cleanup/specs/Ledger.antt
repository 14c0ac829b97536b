-- The log of what was set and cleaned up (this project's own).
use Rattle.std.specs.Prelude.{◌≡◌, ℕ, ◌+◌, ◌<◌, ◌≤◌, Bool, false, nat_eq, List, [], ◌∷◌, length, map}
use Rattle.std.specs.List.{list_any, IsDistinct, AllByRecursion}
use Rattle.data_cleanup.specs.declared.datum.Birth.{Birth}
use Rattle.data_cleanup.specs.declared.receipt.Filed.{Filed}

pub record PlainLedger : Type 0 where
  pub births : List Birth
  pub filed : List Filed

abbrev pub filed_ids : List Filed → List ℕ
filed_ids fs = map (λ (f : Filed). f.receipt.id) fs

-- whether the data with this id have their cleanup record
abbrev pub is_filed : PlainLedger → ℕ → Bool
is_filed ledger id = list_any (nat_eq id) (filed_ids ledger.filed)

-- the data with this id were set and have no cleanup record
pub record IsOutstanding (ledger : PlainLedger) (id : ℕ) : Type 0 where
  pub born : id < length ledger.births
  pub unfiled : is_filed ledger id ≡ false

-- no data have two cleanup records, and all were set before their cleanup was logged
pub record IsSound (births : List Birth) (filed : List Filed) : Type 0 where
  pub once : IsDistinct nat_eq (filed_ids filed)
  pub born : AllByRecursion (λ (f : Filed). f.receipt.id < f.mark) filed
  pub marks : AllByRecursion (λ (f : Filed). f.mark ≤ length births) filed

-- the id of each set is its position, counted from this number
abbrev pub AreNumbered : ℕ → List Birth → Type 0
AreNumbered n [] = Unit {0}
AreNumbered n (b ∷ bs) = (b.id ≡ n) × AreNumbered (n + 1) bs
