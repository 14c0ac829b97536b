-- The plain record of a transaction's struct (this project's own).
use Rattle.std.specs.Prelude.{◌≡◌}
use Rattle.std.specs.Option.{option_map}
use Rattle.std.specs.declared.alloc.Global.{Global}
use Rattle.std.specs.declared.dyn_box.DynBox.{DynBox}
use Rattle.dispatch_core.specs.AnswersSoFar.{past_of}
use Rattle.dispatch_core.specs.pam_room.specs.State.{PlainRoom}
use Rattle.dispatch_core.specs.pam_room.specs.declared.room.Room.{Room}
use Rattle.pam_handle.specs.declared.chains.Chains.{Chains}
use Rattle.pam_handle.specs.declared.handle.Handle.{Handle}
use Rattle.pam_handle.specs.declared.put_off.PutOff.{PutOff}
use Rattle.dispatch_core.specs.control_words.specs.Stack.{Stack}
use Rattle.dispatch_core.specs.service_load.specs.declared.rule_type.RuleType.{RuleType}
use Rattle.dispatch_core.specs.service_load.specs.ByType.{at_type}
use Rattle.dispatch_core.specs.service_load.specs.Stacks.{Stacks}
use Rattle.dispatch_core.specs.Pending.{Pending}
use Rattle.pam_handle.specs.Handle.{PlainHandle}
use Rattle.pam_handle.specs.Pass.{kept_answers}

-- the stacks from which four chains were made
abbrev pub stacks_in : Chains → Stacks
stacks_in c = record {
  auth = c.by_type.auth.nodes;
  account = c.by_type.account.nodes;
  password = c.by_type.password.nodes;
  session = c.by_type.session.nodes;
}

-- the stack of a type from which its chain was made
abbrev pub nodes_in : Chains → RuleType → Stack
nodes_in c type = (at_type c.by_type type).nodes

abbrev pub pending_of : PutOff → Pending
pending_of p = record { func = p.func; past = past_of p.paused; first = kept_answers p.first }

-- a function has the same result for two values
abbrev pub Keeps : {A B : Type 0} → (A → B) → A → A → Type 0
Keeps says old new = says new ≡ says old

-- the value in a box, with its type
abbrev pub in_box : {X : Type 0} {V : X → Type 0} → DynBox X Global V → (x : X) × V x
in_box b = (b.vtable, b.value)

module _ {X : Type 0} {V : X → Type 0} where
  -- the room of a transaction
  abbrev pub room_in : Handle X V → Room X V
  room_in h = h.room

  -- its content, from that of its room; with a real conversation, too, all of it is exact except
  -- the content of the conversation
  abbrev pub plain_handle : (Room X V → PlainRoom) → Handle X V → PlainHandle
  plain_handle room h = record {
    room = room h.room;
    stacks = stacks_in h.chains;
    names = h.chains.by_type.auth.names;
    authenticated = kept_answers h.authenticated;
    opened = kept_answers h.opened;
    delay_on = h.delay_on;
    pending = option_map pending_of h.pending;
    waited = h.waited;
  }
