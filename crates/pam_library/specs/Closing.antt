-- Open transactions are ended one after another, the lowest number first (this project's own).
use Rattle.std.specs.Prelude.{◌≡◌, ℕ, ◌+◌, List, [], ◌∷◌, Option, Some, None}
use Rattle.std.specs.Option.{option_map}
use Rattle.data_cleanup.specs.Cleanup.{Notes}
use Rattle.data_cleanup.specs.Due.{Event, ends}
use Rattle.pam_handle.specs.pam_room.specs.State.{PlainWorld}
use Rattle.pam_handle.specs.Handle.{PlainHandle}
use Rattle.pam_handle.specs.End.{world_after_end}
use Rattle.pam_library.specs.Slots.{PlainSlot, closed, opened, with_slot}

-- the number of the first open slot, if the first slot has this number, with its transaction
abbrev pub first_open : ℕ → List PlainSlot → Option (ℕ × PlainHandle)
first_open number [] = None
first_open number (closed conv ∷ slots) = first_open (number + 1) slots
first_open number (opened h ∷ slots) = Some (number, h)

-- the lowest open transaction was ended: its number, and the slots and the world after it
pub record ClosedOne : Type 0 where
  pub number : ℕ
  pub slots : List PlainSlot
  pub world : PlainWorld

module _ (note : Notes) (status : ℕ) where
  abbrev pub ended_at : List PlainSlot → PlainWorld → ℕ × PlainHandle → ClosedOne
  ended_at slots w found = record {
    number = found.0;
    slots = with_slot slots found.0 (closed found.1.room.conv);
    world = world_after_end note status found.1 w;
  }

  -- None if no transaction is open
  unfoldable pub closed_one : List PlainSlot → PlainWorld → Option ClosedOne
  closed_one slots w = option_map (ended_at slots w) (first_open 1 slots)

-- what ending the lowest open transaction returns and leaves
abbrev pub ClosesAs : Option ClosedOne → Option ℕ → List PlainSlot → PlainWorld → List PlainSlot
    → PlainWorld → Type 0
ClosesAs None answer slots w next v = (answer ≡ None) × (next ≡ slots) × (v ≡ w)
ClosesAs (Some c) answer slots w next v = (answer ≡ Some c.number) × (next ≡ c.slots)
    × (v ≡ c.world)

-- the end, if there was one
abbrev pub end_of : ℕ → Option ℕ → List Event
end_of status None = []
end_of status (Some number) = ends number status ∷ []

-- the slot of the first open transaction, from 0
abbrev pub IsFirstOpen : Option ℕ → Option (ℕ × PlainHandle) → Type 0
IsFirstOpen None found = found ≡ None
IsFirstOpen (Some i) found = (h : PlainHandle) × (found ≡ Some (i + 1, h))
