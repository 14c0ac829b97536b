-- The data that a transaction holds, related to all data that were set (pam_set_data(3)).
use Rattle.std.specs.Prelude.{◌≡◌, ℕ, ◌<◌, List, length}
use Rattle.std.specs.List.{AllByRecursion}
use Rattle.data_cleanup.specs.Datum.{PlainDatum}
use Rattle.data_cleanup.specs.DataList.{PlainDataList, datum_of}
use Rattle.data_cleanup.specs.declared.datum.Birth.{Birth}

-- data of a transaction that no later data of the same name replaced
pub record IsLatest (handle : ℕ) (births : List Birth) (d : PlainDatum) : Type 0 where
  pub below : d.id < length births
  pub is : AllByRecursion (λ (b : Birth). b.id ≡ d.id → (datum_of b ≡ d)
      × (b.handle ≡ handle)) births
  pub latest : AllByRecursion (λ (c : Birth). d.id < c.id → c.handle ≡ handle → c.name
      ≡ d.name → ⊥) births

-- all data of a list are such data
abbrev pub AreLatest : List Birth → PlainDataList → Type 0
AreLatest births list = AllByRecursion (IsLatest list.handle births) list.live
