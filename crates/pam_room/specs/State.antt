-- Transactions and what they share as plain records, with what is modelled of their objects (this project's own).
use Rattle.std.specs.Prelude.{ℕ, Bool, false, List, []}
use Rattle.item_store.specs.Items.{ItemTexts, no_texts}
use Rattle.env_list.specs.Environment.{Variable}
use Rattle.conv_port.specs.Conv.{ConvState}
use Rattle.conv_port.specs.declared.message.Message.{Message}
use Rattle.data_cleanup.specs.DataList.{PlainDataList}
use Rattle.data_cleanup.specs.Ledger.{PlainLedger}
use Rattle.pam_outside.specs.Files.{VaultState}
use Rattle.pam_outside.specs.Time.{ClockState, NapState}
use Rattle.pam_room.specs.declared.visits.Visit.{Visit}

-- what a transaction holds; of the trace only the lines that were run
pub record PlainTransaction : Type 0 where
  pub items : ItemTexts
  pub env : List Variable
  pub datums : PlainDataList
  pub delay : ℕ
  pub said : List Message
  pub trail : List Visit
  pub handle : ℕ
  pub serving : ℕ
  pub put_off : Bool

-- a transaction in which nothing is set, no message was sent and no line run
abbrev pub new_transaction : ℕ → PlainTransaction
new_transaction handle = record {
  items = no_texts;
  env = [];
  datums = record { handle = handle; live = []; gone = [] };
  delay = 0;
  said = [];
  trail = [];
  handle = handle;
  serving = 0;
  put_off = false;
}

-- a transaction, and what is modelled of its conversation
pub record PlainRoom : Type 0 where
  pub transaction : PlainTransaction
  pub conv : ConvState

-- what all transactions of a process share in memory
pub record PlainProcess : Type 0 where
  pub ledger : PlainLedger
  pub root : List ℕ
  pub caller : ℕ

-- the shared state, and what is modelled of its files, its clock and its sleep
pub record PlainWorld : Type 0 where
  pub vault : VaultState
  pub clock : ClockState
  pub nap : NapState
  pub process : PlainProcess

pub record State : Type 0 where
  pub room : PlainRoom
  pub world : PlainWorld

abbrev pub room_of : PlainTransaction → ConvState → PlainRoom
room_of transaction conv = record { transaction = transaction; conv = conv }

abbrev pub world_of : VaultState → ClockState → NapState → PlainProcess → PlainWorld
world_of vault clock nap process = record {
  vault = vault;
  clock = clock;
  nap = nap;
  process = process;
}

abbrev pub state_of : PlainRoom → PlainWorld → State
state_of room world = record { room = room; world = world }

-- what contracts see of a room and a world: what is modelled, whether all objects that a module gets are, and whether
-- the sleep is too
pub record Seen : Type 0 where
  pub state : State
  pub lent_tells : Bool
  pub tells : Bool

-- what a module gets: all of the state except the sleep
pub record Scene : Type 0 where
  pub room : PlainRoom
  pub vault : VaultState
  pub clock : ClockState
  pub process : PlainProcess

abbrev pub scene_of : PlainRoom → VaultState → ClockState → PlainProcess → Scene
scene_of room vault clock process = record {
  room = room;
  vault = vault;
  clock = clock;
  process = process;
}

abbrev pub scene_in : State → Scene
scene_in s = scene_of s.room s.world.vault s.world.clock s.world.process

-- a state in which this replaces what the module got
abbrev pub with_scene : Scene → State → State
with_scene scene s = record {
  room = scene.room;
  world = record s.world { vault = scene.vault; clock = scene.clock; process = scene.process };
}
