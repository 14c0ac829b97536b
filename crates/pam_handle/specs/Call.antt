-- The result of an application's call, and what several calls of a transaction have in common (pam_fail_delay(3); that
-- a call may be incomplete, and what other calls return meanwhile, is this project's own).
use Rattle.std.specs.Prelude.{◌≡◌, ℕ, Bool, true, false, Option, Some, None, List, Result, if◌then◌else◌, ◌==◌}
use Rattle.std.specs.Result.{result_ok}
use Rattle.pam_base.specs.declared.code.Code.{Code}
use Rattle.pam_base.specs.declared.call.Func.{Func}
use Rattle.pam_base.specs.declared.call.Func.TheVariants.{Authenticate, ChAuthTok}
use Rattle.pam_base.specs.declared.fault.NoMemory.{NoMemory}
use Rattle.item_store.specs.Items.{ItemTexts, without_tokens}
use Rattle.dispatch_core.specs.fail_delay.specs.Delay.{asked_delay}
use Rattle.dispatch_core.specs.fail_delay.specs.Wait.{wait_of}
use Rattle.dispatch_core.specs.pam_outside.specs.Time.{NapState, random_taken, rested}
use Rattle.dispatch_core.specs.pam_room.specs.State.{PlainRoom, PlainWorld}
use Rattle.pam_handle.specs.declared.wait.Wait.{Wait}
use Rattle.dispatch_core.specs.Pending.{Pending}
use Rattle.pam_handle.specs.Handle.{PlainHandle, in_room}

-- the code that a call returns, and the transaction and the world after it
pub record Called : Type 0 where
  pub code : Code
  pub handle : PlainHandle
  pub world : PlainWorld

abbrev pub called : Code → PlainHandle → PlainWorld → Called
called code h w = record { code = code; handle = h; world = w }

-- a code, a transaction and a world are those of a call
pub record CallsAs (c : Called) (code : Code) (handle : PlainHandle) (world : PlainWorld) : Type
    0 where
  pub code_is : code ≡ c.code
  pub handle_is : handle ≡ c.handle
  pub world_is : world ≡ c.world

-- ---- the room

-- the room with these items
abbrev pub room_with : ItemTexts → PlainRoom → PlainRoom
room_with items r = record r { transaction = record r.transaction { items = items } }

-- the room with both tokens unset
abbrev pub without_its_tokens : PlainRoom → PlainRoom
without_its_tokens r = room_with (without_tokens r.transaction.items) r

-- the room with no requested delay
abbrev pub without_request : PlainRoom → PlainRoom
without_request r = record r { transaction = record r.transaction { delay = 0 } }

abbrev pub tokens_cleared : PlainHandle → PlainHandle
tokens_cleared h = in_room (without_its_tokens h.room) h

abbrev pub request_forgotten : PlainHandle → PlainHandle
request_forgotten h = in_room (without_request h.room) h

-- ---- incomplete calls

-- the items when a call that clears the tokens begins or is resumed: it clears them if it begins
abbrev pub items_begun : Option Pending → ItemTexts → ItemTexts
items_begun None items = without_tokens items
items_begun (Some p) items = items

-- the requested delay is dropped when a pass has ended, and kept if the pass is incomplete
abbrev pub request_after : Option (List Code) → PlainRoom → PlainRoom
request_after None r = without_request r
request_after (Some past) r = r

-- the tokens after a pass: a call that clears them clears them when the pass has ended
abbrev pub items_past : Option (List Code) → ItemTexts → ItemTexts
items_past None items = without_tokens items
items_past (Some past) items = items

-- only authenticate and chauthtok clear the tokens
abbrev pub clears_tokens : Func → Bool
clears_tokens Authenticate = true
clears_tokens ChAuthTok = true
clears_tokens func = false

abbrev pub items_before : Func → Option Pending → ItemTexts → ItemTexts
items_before func pending items = if clears_tokens func then items_begun pending items else items

abbrev pub items_after : Func → Option (List Code) → ItemTexts → ItemTexts
items_after func paused items = if clears_tokens func then items_past paused items else items

-- the code with which a call has ended: none if it is incomplete or ran out of memory
abbrev pub final_code : Option (List Code) → Result Code NoMemory → Option Code
final_code None result = result_ok result
final_code (Some past) result = None

-- the code after which a call waits: only authenticate does
abbrev pub code_waited : Func → Option (List Code) → Result Code NoMemory → Option Code
code_waited Authenticate paused result = final_code paused result
code_waited func paused result = None

-- ---- the wait after an authentication

-- a wait, if there is one, replaces the record of an earlier one
abbrev pub waited_by : Code → ℕ → Option ℕ → Option Wait → Option Wait
waited_by code asked None before = before
waited_by code asked (Some n) before = Some (record { code = code; asked = asked; wait = n })

-- a random word is read only if a delay was requested
abbrev pub random_taken_for : ℕ → PlainWorld → PlainWorld
random_taken_for longest w = if longest == 0 then w else record w { clock = random_taken w.clock }

-- a wait of more than 0 is slept
abbrev pub rested_by : Option ℕ → PlainWorld → PlainWorld
rested_by None w = w
rested_by (Some n) w = if n == 0 then w else record w { nap = rested w.nap n }

-- the sleep after a wait, or without one: a wait of more than 0 is slept once, and in one piece
abbrev pub nap_after : Option ℕ → NapState → NapState
nap_after None nap = nap
nap_after (Some n) nap = if n == 0 then nap else rested nap n

abbrev pub waits : Code → ℕ → Option ℕ → PlainHandle → PlainWorld → Called
waits code asked wait h w =
    called code (record h { waited = waited_by code asked wait h.waited }) (rested_by wait w)

-- `number` is what the application's delay function returns
abbrev pub waits_after : (Code → ℕ → ℕ) → Code → PlainHandle → PlainWorld → Called
waits_after number code h w =
    let asked = asked_delay h.room.transaction.delay w.clock.word in
    waits code asked (wait_of h.delay_on number code asked) h
    (random_taken_for h.room.transaction.delay w)

-- the record of a wait and the world after a call that has ended with a code, or that hasn't ended
abbrev pub WaitsAfter : (Code → ℕ → ℕ) → Option Code → ℕ → Bool → Option Wait → PlainWorld
    → Option Wait → PlainWorld → Type 0
WaitsAfter number None longest on before w after last = (after ≡ before) × (last ≡ w)
WaitsAfter number (Some code) longest on before w after last =
    let asked = asked_delay longest w.clock.word in
    (after ≡ waited_by code asked (wait_of on number code asked) before)
    × (last ≡ rested_by (wait_of on number code asked) (random_taken_for longest w))
