-- The invariant of a list of data.
use Rattle.std.specs.Prelude.{◌≡◌, ℕ, List, Vec, map}
use Rattle.std.specs.Global.{Global}
use Rattle.std.specs.List.{AllByRecursion}
use Rattle.data_cleanup.specs.Datum.{PlainDatum}
use Rattle.data_cleanup.specs.DataList.{AreApart}

-- the data of the entries
abbrev pub data_of : List (Vec ℕ Global × PlainDatum) → List PlainDatum
data_of entries = map (λ (e : Vec ℕ Global × PlainDatum). e.1) entries

-- Data are stored under their own name, and no two under the same.
pub record AreNamed (entries : List (Vec ℕ Global × PlainDatum)) : Type 0 where
  pub own : AllByRecursion (λ (e : Vec ℕ Global × PlainDatum). e.0.items ≡ e.1.name) entries
  pub apart : AreApart (data_of entries)
