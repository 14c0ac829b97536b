-- Which data the transactions hold after a run, and which cleanup records there are.
use Rattle.std.specs.Prelude.{ℕ, List, [], map, reverse}
use Rattle.data_cleanup.specs.Datum.{PlainDatum}
use Rattle.data_cleanup.specs.Cleanup.{Notes}
use Rattle.data_cleanup.specs.Grows.{with_births, replacements}
use Rattle.data_cleanup.specs.Due.{Event, since_end}
use Rattle.data_cleanup.specs.declared.datum.Birth.{Birth}
use Rattle.data_cleanup.specs.declared.receipt.Receipt.{Receipt}

-- the data set in a transaction since its last end, in order
abbrev pub births_since : ℕ → List Event → List Birth
births_since handle events = reverse (since_end handle (reverse events))

-- the data that a transaction holds
abbrev pub data_held : ℕ → List Event → List PlainDatum
data_held handle events = with_births [] (births_since handle events)

-- the data that some new ones replace, in order
abbrev pub replaced_data : List PlainDatum → List Birth → List PlainDatum
replaced_data live births = map (λ (r : PlainDatum × ℕ). r.0) (replacements live births)

abbrev pub receipts : Notes → ℕ → List PlainDatum → List Receipt
receipts note status ds =
    map (λ (d : PlainDatum). record {
      id = d.id;
      status = status;
      note = note d.owner d.payload status;
    }) ds
