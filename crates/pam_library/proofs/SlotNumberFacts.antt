-- Slots by their numbers, and what replacing one of them changes.
use Rattle.std.proofs.Common.{◌≡◌, ℕ, zero, suc, ◌<◌, ◌≤◌, List, [], ◌∷◌, length, Some, slice_get, slice_set, refl, ap, arith}
use Rattle.pam_library.specs.Slots.{PlainSlot, slot_at, with_slot, data_in, lists_of}

get-set_same : (xs : List PlainSlot) (i : ℕ) (old new : PlainSlot) → slice_get xs i ≡ Some old → slice_get (slice_set xs i new) i ≡ Some new
get-set_same [] i old new is = cc
get-set_same (x ∷ xs) zero old new is = refl
get-set_same (x ∷ xs) (suc i) old new is = get-set_same xs i old new is

get-set_other : (xs : List PlainSlot) (i j : ℕ) (new : PlainSlot) → (j ≡ i → ⊥) → slice_get (slice_set xs i new) j ≡ slice_get xs j
get-set_other [] i j new other = refl
get-set_other (x ∷ xs) zero zero new other = absurd (other refl)
get-set_other (x ∷ xs) zero (suc j) new other = refl
get-set_other (x ∷ xs) (suc i) zero new other = refl
get-set_other (x ∷ xs) (suc i) (suc j) new other = get-set_other xs i j new (λ e. other (ap suc e))

length-slice_set : (xs : List PlainSlot) (i : ℕ) (new : PlainSlot) → length (slice_set xs i new) ≡ length xs
length-slice_set [] i new = refl
length-slice_set (x ∷ xs) zero new = refl
length-slice_set (x ∷ xs) (suc i) new = ap suc (length-slice_set xs i new)

pub slot_at-with_slot_same : (slots : List PlainSlot) (number : ℕ) (old new : PlainSlot) → slot_at slots number ≡ Some old
    → slot_at (with_slot slots number new) number ≡ Some new
slot_at-with_slot_same slots zero old new is = cc
slot_at-with_slot_same slots (suc i) old new is = get-set_same slots i old new is

pub slot_at-with_slot_other : (slots : List PlainSlot) (number other : ℕ) (new : PlainSlot) → (other ≡ number → ⊥)
    → slot_at (with_slot slots number new) other ≡ slot_at slots other
slot_at-with_slot_other slots zero other new differs = refl
slot_at-with_slot_other slots (suc i) zero new differs = refl
slot_at-with_slot_other slots (suc i) (suc j) new differs = get-set_other slots i j new (λ e. differs (ap suc e))

pub length-with_slot : (slots : List PlainSlot) (number : ℕ) (new : PlainSlot) → length (with_slot slots number new) ≡ length slots
length-with_slot slots zero new = refl
length-with_slot slots (suc i) new = length-slice_set slots i new

-- the numbers of slots
pub slot_at-within : (slots : List PlainSlot) (number : ℕ) (slot : PlainSlot) → slot_at slots number ≡ Some slot → (0 < number) × (number ≤ length slots)
slot_at-within slots zero slot is = absurd (cc)
slot_at-within [] (suc i) slot is = absurd (cc)
slot_at-within (x ∷ slots) (suc zero) slot is = (omega arith, omega arith)
slot_at-within (x ∷ slots) (suc (suc i)) slot is = let h = slot_at-within slots (suc i) slot is in (omega arith, omega arith)

-- only the data of one slot change
pub lists-other : (slots : List PlainSlot) (number : ℕ) (new : PlainSlot) (other : ℕ) → (other ≡ number → ⊥)
    → lists_of (with_slot slots number new) other ≡ lists_of slots other
lists-other slots number new other differs = ap (data_in other) (slot_at-with_slot_other slots number other new differs)

pub lists-same : (slots : List PlainSlot) (number : ℕ) (old new : PlainSlot) → slot_at slots number ≡ Some old
    → lists_of (with_slot slots number new) number ≡ data_in number (Some new)
lists-same slots number old new is = ap (data_in number) (slot_at-with_slot_same slots number old new is)
