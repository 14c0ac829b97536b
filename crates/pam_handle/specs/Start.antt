-- The start of a transaction (pam_start(3)).
use Rattle.std.specs.Prelude.{◌≡◌, ℕ, List, Option, Some, None, Result, Ok, Err, MatchResult, false}
use Rattle.std.specs.Str.{str_to_ascii_lowercase}
use Rattle.pam_base.specs.declared.fault.Refuse.{Refuse}
use Rattle.pam_base.specs.declared.fault.Refuse.TheVariants.{NoMemory, Named}
use Rattle.dispatch_core.specs.conv_port.specs.Conv.{ConvState}
use Rattle.dispatch_core.specs.pam_outside.specs.Files.{VaultState}
use Rattle.dispatch_core.specs.service_load.specs.declared.load_fault.LoadFault.{LoadFault}
use Rattle.dispatch_core.specs.service_load.specs.FirstFault.{Counts, Stop}
use Rattle.dispatch_core.specs.service_load.specs.Load.{loaded, directory_exists}
use Rattle.dispatch_core.specs.service_load.specs.Loading.{texts_of, CountsFaults}
use Rattle.dispatch_core.specs.service_load.specs.Tree.{tree}
use Rattle.item_store.specs.Items.{ItemTexts, no_texts}
use Rattle.dispatch_core.specs.pam_room.specs.State.{PlainRoom, PlainWorld, new_transaction, room_of}
use Rattle.dispatch_core.specs.pam_room.specs.declared.room.Room.{Room}
use Rattle.pam_handle.specs.declared.chains.Chains.{Chains}
use Rattle.pam_handle.specs.declared.handle.Handle.{Handle}
use Rattle.pam_handle.specs.declared.start.StartRefused.{StartRefused}
use Rattle.pam_handle.specs.Plain.{plain_handle, stacks_in}
use Rattle.dispatch_core.specs.service_load.specs.Stacks.{Stacks, stacks_of}
use Rattle.pam_handle.specs.Handle.{PlainHandle}

-- only SERVICE and, if known, USER are set
abbrev pub first_texts : List ℕ → Option (List ℕ) → ItemTexts
first_texts service user = record no_texts {
  service = Some (str_to_ascii_lowercase service);
  user = user;
}

-- a transaction of this number with these items, in which nothing else is set
abbrev pub handle_with : ℕ → ItemTexts → ConvState → List (List ℕ) → Stacks → PlainHandle
handle_with number items conv names stacks = record {
  room = room_of (record (new_transaction number) { items = items }) conv;
  stacks = stacks;
  names = names;
  authenticated = None;
  opened = None;
  delay_on = false;
  pending = None;
  waited = None;
}

abbrev pub new_handle : ℕ → List ℕ → Option (List ℕ) → ConvState → List (List ℕ) → Stacks
    → PlainHandle
new_handle number service user conv names stacks =
    handle_with number (first_texts service user) conv names stacks

-- a start: a transaction, or the first fault of its configuration; of the world only the number of file accesses
-- changes
pub record Started : Type 0 where
  pub answer : Result PlainHandle LoadFault
  pub world : PlainWorld

abbrev pub with_calls : ℕ → PlainWorld → PlainWorld
with_calls calls w = record w { vault = record w.vault { calls = calls } }

abbrev pub started_by : (Stacks → PlainHandle) → Result Counts Stop → Stacks → PlainWorld → Started
started_by opened (Ok counts) stacks w =
    record { answer = Ok (opened stacks); world = with_calls counts.calls w }
started_by opened (Err stop) stacks w =
    record { answer = Err stop.fault; world = with_calls stop.calls w }

-- the stacks that a service has under the root
abbrev pub stacks_under : VaultState → List ℕ → List ℕ → Stacks
stacks_under vault root service =
    stacks_of (tree (texts_of root vault) (directory_exists vault root) service)

abbrev pub started : ℕ → List ℕ → Option (List ℕ) → ConvState → List (List ℕ) → PlainWorld → Started
started number service user conv names w =
    started_by (new_handle number service user conv names) (loaded w.vault w.process.root service)
    (stacks_under w.vault w.process.root service) w

-- ---- the result of a start

-- the transaction that it opens, and the world after it
pub record Opens (s : Started) (handle : PlainHandle) (world : PlainWorld) : Type 0 where
  pub handle_is : s.answer ≡ Ok handle
  pub world_is : world ≡ s.world

-- why it is refused, and the world after it; nothing is stated for a start that runs out of memory
abbrev pub Refuses : Started → Refuse LoadFault → PlainWorld → Type 0
Refuses s (Named fault) world = (s.answer ≡ Err fault) × (world ≡ s.world)
Refuses s NoMemory world = Unit {0}

module _ {X : Type 0} {V : X → Type 0} where
  abbrev pub StartsAs : (Room X V → PlainRoom) → Started → Result (Handle X V) (StartRefused X V)
      → PlainWorld → Type 0
  StartsAs room s result world = MatchResult result
      (λ handle. Opens s (plain_handle room handle) world) (λ refused. Refuses s refused.why world)

-- with real objects too: the count of failed file accesses rises if a file couldn't be read, and with no other fault
abbrev pub RefusalCounts : Refuse LoadFault → ℕ → ℕ → Type 0
RefusalCounts why before after = CountsFaults {A = Unit {0}} (Err why) before after

-- the stacks of a service without a fault, with the number of file accesses, or its first fault
abbrev pub Prepares : {A : Type 0} → Result (A × Chains) (Refuse LoadFault) → PlainWorld
    → VaultState → List ℕ → Type 0
Prepares (Ok parts) w new service = (counts : Counts)
    × (loaded w.vault w.process.root service ≡ Ok counts) × (new.calls ≡ counts.calls)
    × (stacks_in parts.1 ≡ stacks_under w.vault w.process.root service)
Prepares (Err (Named fault)) w new service = loaded w.vault w.process.root service
    ≡ Err (record { fault = fault; calls = new.calls })
Prepares (Err NoMemory) w new service = Unit {0}
