-- The plain record of each struct (this project's own).
use Rattle.std.specs.Prelude.{◌≡◌}
use Rattle.std.specs.declared.alloc.Global.{Global}
use Rattle.std.specs.declared.dyn_box.DynBox.{DynBox}
use Rattle.conv_port.specs.Conv.{ConvState}
use Rattle.pam_outside.specs.Files.{VaultState}
use Rattle.pam_outside.specs.Time.{ClockState, NapState}
use Rattle.pam_room.specs.State.{PlainTransaction, PlainRoom, PlainProcess, PlainWorld, room_of, world_of}
use Rattle.pam_room.specs.Module.{SeenRoom, seen_of}
use Rattle.pam_room.specs.Call.{PlainCall}
use Rattle.pam_room.specs.declared.transaction.Transaction.{Transaction}
use Rattle.pam_room.specs.declared.room.Room.{Room}
use Rattle.pam_room.specs.declared.process.Process.{Process}
use Rattle.pam_room.specs.declared.world.World.{World}
use Rattle.pam_room.specs.declared.call.Call.{Call}

abbrev pub plain_call : Call → PlainCall
plain_call call = record { func = call.func; flags = call.flags; args = call.args.now }

abbrev pub plain_transaction : Transaction → PlainTransaction
plain_transaction t = record {
  items = t.items;
  env = t.env;
  datums = t.datums;
  delay = t.delay;
  said = t.said;
  trail = t.trail.visits;
  handle = t.handle;
  serving = t.serving;
  put_off = t.put_off;
}

-- what a module sees of a transaction, with what is modelled of its conversation
abbrev pub seen_in : Transaction → ConvState → SeenRoom
seen_in t conv = seen_of (room_of (plain_transaction t) conv)

-- in a transaction only the messages changed, and whether the call is incomplete
abbrev pub OnlySays : Transaction → Transaction → Type 0
OnlySays old new = new ≡ record old { said = new.said; put_off = new.put_off }

abbrev pub plain_process : Process → PlainProcess
plain_process p = record { ledger = p.ledger; root = p.root; caller = p.caller }

module _ {X : Type 0} {V : X → Type 0} where
  abbrev pub plain_room : (DynBox X Global V → ConvState) → Room X V → PlainRoom
  plain_room conv room = room_of (plain_transaction room.transaction) (conv room.conv)

module _ {X Y Z : Type 0} {U : X → Type 0} {V : Y → Type 0} {W : Z → Type 0} where
  abbrev pub plain_world : (DynBox X Global U → VaultState) → (DynBox Y Global V → ClockState)
      → (DynBox Z Global W → NapState) → World X Y Z U V W → PlainWorld
  plain_world vault clock nap world =
      world_of (vault world.vault) (clock world.clock) (nap world.nap) (plain_process world.process)
