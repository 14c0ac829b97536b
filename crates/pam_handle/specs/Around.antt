-- What contracts see of the modules, a transaction and the world, before a call and after it, in one value (this
-- project's own).
use Rattle.std.specs.Prelude.{◌≡◌, ◌&&◌, ℕ, Bool, List}
use Rattle.pam_base.specs.declared.code.Code.{Code}
use Rattle.dispatch_core.specs.pam_room.specs.Module.{Player}
use Rattle.dispatch_core.specs.pam_room.specs.State.{PlainRoom, PlainWorld, State, state_of}
use Rattle.dispatch_core.specs.pam_room.specs.declared.room.Room.{Room}
use Rattle.dispatch_core.specs.pam_room.specs.declared.world.World.{World}
use Rattle.pam_handle.specs.declared.handle.Handle.{Handle}
use Rattle.pam_handle.specs.Handle.{PlainHandle}
use Rattle.pam_handle.specs.Plain.{plain_handle, room_in}
use Rattle.pam_handle.specs.Ready.{IsReadyFor}

-- the meanings of the modules and of the delay function, what is modelled of a transaction and of the world, and
-- whether the transaction's conversation is modelled, all objects of the world, and its sleep
pub record CallSeen : Type 1 where
  pub players : List Player
  pub gives : (Code → ℕ → ℕ) → Type 0
  pub handle : PlainHandle
  pub world : PlainWorld
  pub tells : Bool
  pub world_tells : Bool
  pub nap_tells : Bool

abbrev pub all_tell : CallSeen → Bool
all_tell s = s.tells && s.world_tells

abbrev pub state_in : CallSeen → State
state_in s = state_of s.handle.room s.world

-- the transaction may be called with these modules in this world
abbrev pub IsReady : CallSeen → Type 0
IsReady s = IsReadyFor s.players s.handle s.world.process

-- what is seen before a call and after it, and that the transaction, the world or its sleep is the very same, their
-- objects too
pub record Around : Type 1 where
  pub old : CallSeen
  pub new : CallSeen
  pub handle_is_kept : Type 0
  pub world_is_kept : Type 0
  pub nap_is_kept : Type 0

-- The five functions say of a room, a world and its sleep whether they are modelled, and what a room and a world hold.
module _ {C X Y Z : Type 0} {T : C → Type 0} {U : X → Type 0} {V : Y → Type 0} {W : Z → Type 0}
    (room_tells : Room C T → Bool) (plain_room : Room C T → PlainRoom)
    (world_tells : World X Y Z U V W → Bool) (nap_tells : World X Y Z U V W → Bool)
    (plain_world : World X Y Z U V W → PlainWorld) where
  abbrev pub call_seen : List Player → ((Code → ℕ → ℕ) → Type 0) → Handle C T → World X Y Z U V W
      → CallSeen
  call_seen players gives handle world = record {
    players = players;
    gives = gives;
    handle = plain_handle plain_room handle;
    world = plain_world world;
    tells = room_tells (room_in handle);
    world_tells = world_tells world;
    nap_tells = nap_tells world;
  }

  abbrev pub around : List Player → ((Code → ℕ → ℕ) → Type 0) → Handle C T → Handle C T
      → World X Y Z U V W → World X Y Z U V W → Around
  around players gives old new before after = record {
    old = call_seen players gives old before;
    new = call_seen players gives new after;
    handle_is_kept = new ≡ old;
    world_is_kept = after ≡ before;
    nap_is_kept = after.nap ≡ before.nap;
  }
