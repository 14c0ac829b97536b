-- The sixteen slots for transactions (this project's own), by their numbers from 1.
use Rattle.std.specs.Prelude.{◌≡◌, ℕ, zero, suc, Bool, true, false, List, [], Option, Some, None, slice_get, slice_set}
use Rattle.std.specs.List.{AllByRecursion}
use Rattle.conv_port.specs.Conv.{ConvState}
use Rattle.data_cleanup.specs.DataList.{PlainDataList}
use Rattle.data_cleanup.specs.Modelled.{Lists, clean_list}
use Rattle.pam_handle.specs.Handle.{PlainHandle}

-- a slot is closed, with a conversation, or has an open transaction
pub data PlainSlot : Type 0 where
  closed : ConvState → PlainSlot
  opened : PlainHandle → PlainSlot

-- the slot with this number
abbrev pub slot_at : List PlainSlot → ℕ → Option PlainSlot
slot_at slots zero = None
slot_at slots (suc i) = slice_get slots i

-- the slots with another content in the slot of this number
abbrev pub with_slot : List PlainSlot → ℕ → PlainSlot → List PlainSlot
with_slot slots zero slot = slots
with_slot slots (suc i) slot = slice_set slots i slot

abbrev pub is_open : PlainSlot → Bool
is_open (closed conv) = false
is_open (opened h) = true

-- whether the slot of a number exists and is open
abbrev pub is_open_at : Option PlainSlot → Bool
is_open_at None = false
is_open_at (Some slot) = is_open slot

abbrev pub NoneIsOpen : List PlainSlot → Type 0
NoneIsOpen slots = AllByRecursion (λ (slot : PlainSlot). is_open slot ≡ false) slots

-- the module data of the transaction in a slot; a closed one has none
abbrev pub data_in : ℕ → Option PlainSlot → PlainDataList
data_in number None = clean_list number []
data_in number (Some (closed conv)) = clean_list number []
data_in number (Some (opened h)) = h.room.transaction.datums

-- the module data of all transactions, by their numbers
abbrev pub lists_of : List PlainSlot → Lists
lists_of slots number = data_in number (slot_at slots number)

-- one more than the highest number of a transaction
abbrev pub handle_limit : ℕ
handle_limit = 17
