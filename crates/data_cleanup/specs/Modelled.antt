-- What relates a cleanup log and the data lists of the transactions to the sets and ends of a run (this project's own).
use Rattle.std.specs.Prelude.{◌≡◌, ◌<◌, ℕ, zero, suc, ◌+◌, nat_eq, nat_lt, if◌then◌else◌, List, [], ◌∷◌, length, map}
use Rattle.std.specs.List.{AllByRecursion}
use Rattle.data_cleanup.specs.Datum.{PlainDatum}
use Rattle.data_cleanup.specs.DataList.{PlainDataList}
use Rattle.data_cleanup.specs.Ledger.{PlainLedger}
use Rattle.data_cleanup.specs.Cleanup.{Notes, times}
use Rattle.data_cleanup.specs.Tidy.{Tidy}
use Rattle.data_cleanup.specs.Due.{Event, birth, ends, due}
use Rattle.data_cleanup.specs.declared.datum.Birth.{Birth}
use Rattle.data_cleanup.specs.declared.receipt.Filed.{Filed}
use Rattle.data_cleanup.specs.declared.receipt.Receipt.{Receipt}
use Rattle.data_cleanup.specs.Holding.{data_held}

-- the data lists of transactions, by their numbers
abbrev pub Lists : Type 0
Lists = ℕ → PlainDataList

-- the list of a transaction, with these data and nothing that waits for its cleanup
abbrev pub clean_list : ℕ → List PlainDatum → PlainDataList
clean_list handle live = record { handle = handle; live = live; gone = [] }

abbrev pub births_of : List Event → List Birth
births_of [] = []
births_of (birth b ∷ events) = b ∷ births_of events
births_of (ends handle status ∷ events) = births_of events

abbrev pub receipts_in : List Filed → List Receipt
receipts_in filed = map (λ (f : Filed). f.receipt) filed

-- how many cleanup records an id has
abbrev pub times_filed : ℕ → List Receipt → ℕ
times_filed id [] = 0
times_filed id (r ∷ rs) = (if nat_eq r.id id then 1 else 0) + times_filed id rs

-- how often an id is among the data of the transactions below a limit
unfoldable pub times_held : ℕ → ℕ → (ℕ → List PlainDatum) → ℕ
times_held zero id data_of = 0
times_held (suc limit) id data_of = times_held limit id data_of + times id (data_of limit)

-- What was set has one cleanup record, or is once in one list; nothing else has or is.
abbrev pub EachOnce : ℕ → PlainLedger → (ℕ → List PlainDatum) → Type 0
EachOnce limit ledger data_of = (id : ℕ) → times_filed id (receipts_in ledger.filed)
    + times_held limit id data_of ≡ (if nat_lt id (length ledger.births) then 1 else 0)

-- The cleanup log and the lists of the transactions, whose numbers are below a limit, are those of these events. A
-- transaction that is closed has no data.
pub record ModelsEvents (note : Notes) (limit : ℕ) (ledger : PlainLedger) (lists : Lists)
    (events : List Event) : Type 0 where
  pub births : ledger.births ≡ births_of events
  pub receipts : receipts_in ledger.filed ≡ due note events
  pub tidy : Tidy note ledger
  pub lists_are : (handle : ℕ) → lists handle ≡ clean_list handle (data_held handle events)
  pub once : EachOnce limit ledger (λ (handle : ℕ). (lists handle).live)

abbrev pub handle_of : Event → ℕ
handle_of (birth b) = b.handle
handle_of (ends handle status) = handle

-- every event is of a transaction below the limit
abbrev pub AreBelow : ℕ → List Event → Type 0
AreBelow limit events = AllByRecursion (λ (e : Event). handle_of e < limit) events
