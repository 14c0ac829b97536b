-- The data of a transaction (pam_set_data(3); that a name keeps its position is this project's own).
use Rattle.std.specs.Prelude.{ℕ, List, [], ◌∷◌, ◌++◌, map, if◌then◌else◌}
use Rattle.std.specs.List.{IsDistinct}
use Rattle.std.specs.Str.{bytes_eq}
use Rattle.data_cleanup.specs.Datum.{PlainDatum}
use Rattle.data_cleanup.specs.declared.datum.Birth.{Birth}

-- the number of the transaction, the data that are set, ordered by when their name was first set, and those that were
-- replaced and not cleaned up yet, the oldest first
pub record PlainDataList : Type 0 where
  pub handle : ℕ
  pub live : List PlainDatum
  pub gone : List PlainDatum

abbrev pub birth_of : ℕ → ℕ → ℕ → List ℕ → List ℕ → Birth
birth_of id handle owner name payload =
    record { id = id; handle = handle; owner = owner; name = name; payload = payload }

-- the data whose set this is
abbrev pub datum_of : Birth → PlainDatum
datum_of b = record { id = b.id; owner = b.owner; name = b.name; payload = b.payload }

-- the data with new ones, which replace those of the same name or come last
abbrev pub with_datum : List PlainDatum → PlainDatum → List PlainDatum
with_datum [] new = new ∷ []
with_datum (d ∷ ds) new = if bytes_eq d.name new.name then new ∷ ds else d ∷ with_datum ds new

-- the data of that name: a list of at most one
abbrev pub data_named : List PlainDatum → List ℕ → List PlainDatum
data_named [] name = []
data_named (d ∷ ds) name = if bytes_eq d.name name then d ∷ [] else data_named ds name

abbrev pub payloads_of : List PlainDatum → List (List ℕ)
payloads_of ds = map (λ (d : PlainDatum). d.payload) ds

-- the list after a set
abbrev pub hold : PlainDataList → Birth → PlainDataList
hold l b = record {
  handle = l.handle;
  live = with_datum l.live (datum_of b);
  gone = l.gone ++ data_named l.live b.name;
}

-- the list after some sets
abbrev pub hold_all : PlainDataList → List Birth → PlainDataList
hold_all l [] = l
hold_all l (b ∷ bs) = hold_all (hold l b) bs

-- no two data have the same name
abbrev pub AreApart : List PlainDatum → Type 0
AreApart ds = IsDistinct bytes_eq (map (λ (d : PlainDatum). d.name) ds)
