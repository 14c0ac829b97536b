-- The result of an owner's cleanup is that of the module with the owner's number.
use Rattle.std.proofs.Common.{◌≡◌, ℕ, zero, suc, ◌<◌, List, [], ◌∷◌, ◌++◌, length, map, get_or, refl, sym, ap, arith}
use Rattle.data_cleanup.specs.Datum.{PlainDatum}
use Rattle.data_cleanup.specs.declared.receipt.Receipt.{Receipt}
use Rattle.pam_room.specs.Module.{Player, notes_of}

pub note_is : {M : Type 0} (player : M → Player) (mods : List M) (i : ℕ) (m : M) → i < length mods → m ≡ get_or mods i m
    → notes_of (map player mods) i ≡ (player m).note
note_is player [] i m lt is = absurd (omega (arith, lt))
note_is player (x ∷ xs) zero m lt is = ap (λ y. (player y).note) (sym is)
note_is player (x ∷ xs) (suc i) m lt is = note_is player xs i m (omega (arith, lt)) is

-- a cleanup record of the module at the owner's number has the owner's result
module _ {M : Type 0} (player : M → Player) (mods : List M) (i : ℕ) (m : M) (status : ℕ) (d : PlainDatum) (r : Receipt) where
  pub by_owner : i ≡ d.owner → i < length mods → m ≡ get_or mods i m
      → r ≡ record { id = d.id; status = status; note = (player m).note d.payload status }
      → r ≡ record { id = d.id; status = status; note = notes_of (map player mods) d.owner d.payload status }
  by_owner own within is made = rw (made, ← own, note_is player mods i m within is) refl

pub gone_first : (gone after live left : List PlainDatum) (d : PlainDatum) → gone ≡ d ∷ after → left ≡ live → gone ++ live ≡ d ∷ (after ++ left)
gone_first gone after live left d e f = rw (e, f) refl
