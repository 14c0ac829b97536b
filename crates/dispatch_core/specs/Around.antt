-- What a pass shows of the modules, a room and a world, before it and after it, in one value (this project's own).
use Rattle.std.specs.Prelude.{◌≡◌, ◌&&◌, Bool, List}
use Rattle.pam_room.specs.Module.{Player}
use Rattle.pam_room.specs.State.{PlainRoom, PlainWorld, State, state_of}
use Rattle.pam_room.specs.declared.room.Room.{Room}
use Rattle.pam_room.specs.declared.world.World.{World}

-- what is modelled of a room and a world, and whether each of them is modelled
pub record Shown : Type 0 where
  pub state : State
  pub room_tells : Bool
  pub world_tells : Bool

abbrev pub all_tell : Shown → Bool
all_tell s = s.room_tells && s.world_tells

-- The meanings of the modules, what is shown before and after, and that the conversation, the sleep and the whole world
-- are the very same objects after it as before.
pub record Around : Type 1 where
  pub players : List Player
  pub old : Shown
  pub new : Shown
  pub conv_is_kept : Type 0
  pub nap_is_kept : Type 0
  pub world_is_kept : Type 0

-- The four functions say of a room and a world whether each is modelled, and what it holds.
module _ {C X Y Z : Type 0} {T : C → Type 0} {U : X → Type 0} {V : Y → Type 0} {W : Z → Type 0}
    (room_tells : Room C T → Bool) (plain_room : Room C T → PlainRoom)
    (world_tells : World X Y Z U V W → Bool) (plain_world : World X Y Z U V W → PlainWorld) where
  abbrev pub shown : Room C T → World X Y Z U V W → Shown
  shown room world = record {
    state = state_of (plain_room room) (plain_world world);
    room_tells = room_tells room;
    world_tells = world_tells world;
  }

  abbrev pub around : List Player → Room C T → Room C T → World X Y Z U V W → World X Y Z U V W
      → Around
  around players old new before after = record {
    players = players;
    old = shown old before;
    new = shown new after;
    conv_is_kept = new.conv ≡ old.conv;
    nap_is_kept = after.nap ≡ before.nap;
    world_is_kept = after ≡ before;
  }
