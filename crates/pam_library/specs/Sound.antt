-- What holds between two calls of a library (this project's own).
use Rattle.std.specs.Prelude.{◌≡◌, ℕ, ◌<◌, List, Some, length}
use Rattle.std.specs.List.{AllByRecursion}
use Rattle.data_cleanup.specs.Ledger.{PlainLedger}
use Rattle.data_cleanup.specs.declared.datum.Birth.{Birth}
use Rattle.data_cleanup.specs.Kept.{AreHeld}
use Rattle.pam_handle.specs.dispatch_core.specs.Lines.{names_of}
use Rattle.pam_handle.specs.pam_room.specs.Module.{Player}
use Rattle.pam_handle.specs.Handle.{PlainHandle}
use Rattle.pam_library.specs.Slots.{PlainSlot, closed, handle_limit, lists_of, opened, slot_at}

-- an open transaction has the number of its slot, and was started with these modules
pub record IsPlaced (names : List (List ℕ)) (number : ℕ) (h : PlainHandle) : Type 0 where
  pub handle : h.room.transaction.handle ≡ number
  pub started_with : h.names ≡ names

-- the same for a slot, open or closed
abbrev pub IsAtPlace : List (List ℕ) → ℕ → PlainSlot → Type 0
IsAtPlace names number (closed conv) = Unit {0}
IsAtPlace names number (opened h) = IsPlaced names number h

-- there are sixteen slots
pub record ArePlaced (names : List (List ℕ)) (slots : List PlainSlot) : Type 0 where
  pub sixteen : length slots ≡ 16
  pub each : (number : ℕ) (slot : PlainSlot) → slot_at slots number ≡ Some slot
      → IsAtPlace names number slot

-- the sets without a cleanup record are exactly the module data of the open transactions, each with the number of its
-- slot, and the owner of every set is one of the modules
pub record IsSound (names : List (List ℕ)) (modules : ℕ) (slots : List PlainSlot)
    (ledger : PlainLedger) : Type 0 where
  pub placed : ArePlaced names slots
  pub held : AreHeld modules handle_limit ledger (lists_of slots)
  pub owned : AllByRecursion (λ (b : Birth). b.owner < modules) ledger.births

-- the same for a library with these modules
abbrev pub IsSoundFor : List Player → List PlainSlot → PlainLedger → Type 0
IsSoundFor players slots ledger = IsSound (names_of players) (length players) slots ledger
