-- The state between two arguments of pam_probe.
use Rattle.std.proofs.Common.{◌≡◌, ℕ, ◌-◌, ◌≤◌, true, false, List, [], ◌∷◌, ◌++◌, length, take, drop, get_or, refl, ap, ◌∙◌, append_assoc, take_all, arith}
use Rattle.std.proofs.lemmas.List.{append-nil}
use Rattle.conv_port.specs.declared.message.Message.{Message}
use Rattle.data_cleanup.specs.DataList.{PlainDataList}
use Rattle.data_cleanup.specs.Ledger.{PlainLedger}
use Rattle.pam_room.specs.Module.{HasSet, NamedData, SeenRoom}
use Rattle.mod_basic.specs.Request.{PlainRequest, set_data, send, delay, nothing, request_of}
use Rattle.mod_basic.specs.Probe.{ComesTo, births_in, probed_all, probing, refuses, room_after}

-- some data were set so far, and the arguments that are left lead to the result of all of them
pub record Midway (Tells : Type 0) (owner : ℕ) (args rest : List (List ℕ)) (start now : SeenRoom) (list : PlainDataList) (ledger : PlainLedger) (later : PlainDataList) (after : PlainLedger) : Type 0 where
  pub births : List NamedData
  pub set : HasSet owner births list ledger later after
  pub goes : Tells → probed_all rest (probing false now births) ≡ probed_all args (probing false start [])

-- a message without a reply sets no data
none_born : (r : PlainRequest) (room : SeenRoom) → refuses r room ≡ true → births_in r ≡ []
none_born (set_data name payload) room h = absurd (cc)
none_born (send style text) room h = refl
none_born (delay micros) room h = refl
none_born nothing room h = refl

module _ (Tells : Type 0) (owner : ℕ) (args : List (List ℕ)) (start : SeenRoom) (list : PlainDataList) (ledger : PlainLedger) where
  pub begun : HasSet owner [] list ledger list ledger → Midway Tells owner args args start start list ledger list ledger
  begun none = record { births = []; set = none; goes = λ t. refl }

  pub gone_on : (whole after : List (List ℕ)) (arg : List ℕ) (r : PlainRequest) (now next : SeenRoom) (x y : PlainDataList) (a b : PlainLedger)
      → (m : Midway Tells owner args whole start now list ledger x a)
      → whole ≡ arg ∷ after → r ≡ request_of arg
      → HasSet owner (m.births ++ births_in r) list ledger y b
      → (Tells → (refuses r now ≡ false) × (next ≡ room_after r now))
      → Midway Tells owner args after start next list ledger y b
  gone_on whole after arg r now next x y a b m e f s done = record {
    births = m.births ++ births_in r;
    set = s;
    goes = λ t.
        let d = rw f at done t in
        let step : probed_all after (probing false next (m.births ++ births_in r)) ≡ probed_all (arg ∷ after) (probing false now m.births) = rw (f, d.0, d.1) refl in
        step ∙ rw e at m.goes t;
  }

  pub ended : (rest : List (List ℕ)) (now : SeenRoom) (x : PlainDataList) (a : PlainLedger)
      → (m : Midway Tells owner args rest start now list ledger x a) → rest ≡ [] → Tells
      → ComesTo false (probed_all args (probing false start [])) now owner list ledger x a
  ended rest now x a m e t =
      let all : probing false now m.births ≡ probed_all args (probing false start []) = rw e at m.goes t in
      rw (← all) (record { refused_is = refl; room_is = refl; births_are = m.set })

  pub refused : (arg : List ℕ) (rest : List (List ℕ)) (now next : SeenRoom) (x y : PlainDataList) (a b : PlainLedger)
      → (m : Midway Tells owner args (arg ∷ rest) start now list ledger x a) → Tells
      → (refuses (request_of arg) now ≡ true) × (next ≡ room_after (request_of arg) now)
      → y ≡ x → b ≡ a
      → ComesTo true (probed_all args (probing false start [])) next owner list ledger y b
  refused arg rest now next x y a b m t d e f =
      let births : m.births ++ births_in (request_of arg) ≡ m.births = rw (none_born (request_of arg) now d.0) (append-nil m.births) in
      let all : probing true next m.births ≡ probed_all args (probing false start []) = rw (d.0, births, ← d.1) at m.goes t in
      rw (← all, e, f) (record { refused_is = refl; room_is = refl; births_are = m.set })

-- the first of some arguments, and those after it
pub first_of : (whole : List (List ℕ)) (arg : List ℕ) → 1 ≤ length whole → arg ≡ get_or whole 0 arg → whole ≡ arg ∷ take (length whole - 1) (drop 1 whole)
first_of [] arg some is = absurd (omega (arith, some))
first_of (x ∷ xs) arg some is = let all : take (length (x ∷ xs) - 1) xs ≡ xs = take_all _ xs (omega arith) in rw (← is, all) refl

pub said_on : (x y z : List Message) → (more : List Message) × (y ≡ x ++ more) → (more : List Message) × (z ≡ y ++ more)
    → (more : List Message) × (z ≡ x ++ more)
said_on x y z s t = (s.0 ++ t.0, t.1 ∙ ap (λ (l : List Message). l ++ t.0) s.1 ∙ append_assoc x _ _)
