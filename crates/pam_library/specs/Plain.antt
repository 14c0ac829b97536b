-- The plain value of a slot's enum (this project's own).
use Rattle.std.specs.Prelude.{Bool, List, map}
use Rattle.std.specs.List.{list_all}
use Rattle.std.specs.declared.alloc.Global.{Global}
use Rattle.std.specs.declared.dyn_box.DynBox.{DynBox}
use Rattle.conv_port.specs.Conv.{ConvState}
use Rattle.pam_handle.specs.pam_room.specs.Plain.{plain_room}
use Rattle.pam_handle.specs.Plain.{plain_handle, room_in}
use Rattle.pam_handle.specs.declared.gear.Gear.{Gear}
use Rattle.pam_library.specs.declared.library.Library.{Library}
use Rattle.pam_library.specs.declared.slot.Slot.{Slot}
use Rattle.pam_library.specs.declared.slot.Slot.TheVariants.{Closed, Open}
use Rattle.pam_library.specs.Slots.{PlainSlot, closed, opened}

module _ {X : Type 0} {V : X → Type 0} where
  -- by the contents of conversations
  abbrev pub plain_slot : (DynBox X Global V → ConvState) → Slot X V → PlainSlot
  plain_slot conv (Closed c) = closed (conv c)
  plain_slot conv (Open h) = opened (plain_handle (plain_room conv) h)

  -- whether its conversation is modelled
  abbrev pub slot_tells : (DynBox X Global V → Bool) → Slot X V → Bool
  slot_tells tells (Closed c) = tells c
  slot_tells tells (Open h) = tells (room_in h).conv

  -- a closed slot with this conversation
  abbrev pub closed_with : (DynBox X Global V → ConvState) → DynBox X Global V → PlainSlot
  closed_with conv c = closed (conv c)

module _ {X Y Z : Type 0} {U : X → Type 0} {V : Y → Type 0} {W : Z → Type 0} {F : _} where
  -- what the application supplied to a library: its modules and its delay function
  abbrev pub gear_in : Library X Y Z U V W F → Gear X Y U V F
  gear_in l = l.gear

  -- its slots, by the contents of conversations
  abbrev pub slots_in : (DynBox Z Global W → ConvState) → Library X Y Z U V W F → List PlainSlot
  slots_in conv l = map (plain_slot conv) l.slots.items

  -- whether all its conversations are modelled
  abbrev pub tells_in : (DynBox Z Global W → Bool) → Library X Y Z U V W F → Bool
  tells_in tells l = list_all (slot_tells tells) l.slots.items
