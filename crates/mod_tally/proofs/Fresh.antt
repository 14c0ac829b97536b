-- A new failure of items of bytes can be written and read.
use Rattle.std.proofs.Common.{◌≡◌, ◌≢◌, ℕ, zero, suc, ◌^◌, ◌<◌, true, List, [], ◌∷◌, take, refl}
use Rattle.std.specs.List.{AllByRecursion}
use Rattle.mod_tally.specs.Faillock.{from, from_host, from_terminal}
use Rattle.mod_tally.specs.Tally.{IsFailure, is_kind}

abbrev pub AreBytes : List ℕ → Type 0
AreBytes text = AllByRecursion (λ b. b < 256) text

take_bytes : (n : ℕ) (text : List ℕ) → AreBytes text → AreBytes (take n text)
take_bytes zero text h = tt
take_bytes (suc n) [] h = tt
take_bytes (suc n) (b ∷ bs) h = (h.0, take_bytes n bs h.1)

module _ (moment : ℕ) (small : moment < 10 ^ 13) where
  with_kind : (kind b : ℕ) (bs : List ℕ) → is_kind kind ≡ true → AreBytes (b ∷ bs) → IsFailure (from kind moment (b ∷ bs))
  with_kind kind b bs known h = record { moment = small; origin = (known, (h.0, take_bytes 63 bs h.1)) }

  by_service : (service : List ℕ) → AreBytes service → service ≢ [] → IsFailure (from 83 moment service)
  by_service [] h there = absurd (there refl)
  by_service (b ∷ bs) h there = with_kind 83 b bs refl h

  by_terminal : (tty service : List ℕ) → AreBytes tty → AreBytes service → service ≢ [] → IsFailure (from_terminal moment tty service)
  by_terminal [] service t h there = by_service service h there
  by_terminal (b ∷ bs) service t h there = with_kind 84 b bs refl t

  pub fresh : (host tty service : List ℕ) → AreBytes host → AreBytes tty → AreBytes service → service ≢ [] → IsFailure (from_host moment host tty service)
  fresh [] tty service r t h there = by_terminal tty service t h there
  fresh (b ∷ bs) tty service r t h there = with_kind 82 b bs refl r
