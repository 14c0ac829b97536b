-- The result of a call in one slot, in one record for the private functions that make it.
use Rattle.std.specs.Prelude.{◌≡◌, ℕ, Bool, true, false, ◌&&◌, IsTrue, IsOk, OnErr, IfOk, List, [], Some, Result, Ok, Err, length}
use Rattle.pam_base.specs.declared.code.Code.{Code}
use Rattle.pam_base.specs.declared.code.Code.TheVariants as codes
use Rattle.pam_base.specs.declared.fault.BadItem.{BadItem}
use Rattle.pam_base.specs.declared.fault.Refuse.{Refuse}
use Rattle.pam_base.specs.declared.fault.Refuse.TheVariants as refusals
use Rattle.pam_base.specs.declared.call.AppCall.{AppCall}
use Rattle.pam_base.specs.declared.call.AppCall.TheVariants as calls
use Rattle.pam_base.specs.declared.fault.NoMemory.{NoMemory}
use Rattle.pam_handle.specs.service_load.specs.declared.load_fault.LoadFault.{LoadFault}
use Rattle.pam_handle.specs.dispatch_core.specs.Lines.{names_of}
use Rattle.pam_handle.specs.pam_room.specs.Module.{Player, notes_of}
use Rattle.pam_handle.specs.pam_room.specs.State.{PlainWorld, PlainProcess}
use Rattle.pam_handle.specs.pam_room.specs.Stays.{IsReady}
use Rattle.pam_handle.specs.Handle.{PlainHandle}
use Rattle.pam_handle.specs.Items.{all_told, missing_from}
use Rattle.pam_handle.specs.Ready.{IsReadyFor}
use Rattle.pam_library.specs.declared.outcome.Outcome.{Outcome}
use Rattle.pam_library.specs.declared.outcome.Answer.{Answer}
use Rattle.pam_library.specs.declared.outcome.Answer.TheVariants as answers
use Rattle.pam_library.specs.Outcome.{PlainOutcome, answers_only, plain_outcome}
use Rattle.pam_library.specs.Slots.{PlainSlot, closed, opened, data_in}
use Rattle.conv_port.specs.Conv.{ConvState}
use Rattle.pam_library.specs.SlotStep.{SlotStepsAs, filed_in, offered, open_step, slot_step}
use Rattle.pam_library.specs.Sound.{IsAtPlace}
use Rattle.pam_library.specs.Traced.{TracesIn}
use Rattle.pam_library.specs.AnyWorld.{AnswersBy, CanAnswer, CountsRefusal, Fails, HidesNoFault, SpendsAt, StopsOn, is_free, leaves_world, refusal, stays_inside, takes_no_memory}

-- a slot that may be called: an open transaction has its number, and its module data wait for their cleanup
abbrev pub IsReadyAt : ℕ → PlainSlot → PlainProcess → Type 0
IsReadyAt modules (closed conv) process = Unit {0}
IsReadyAt modules (opened h) process = IsReady modules h.room.transaction process

-- what a step in one slot works with: the modules and the delay function, the slot and the world, whether the slot's
-- conversation is modelled, and the objects of the world, and the file store's count of failed accesses
pub record SlotSeen : Type 1 where
  pub players : List Player
  pub gives : (Code → ℕ → ℕ) → Type 0
  pub slot : PlainSlot
  pub world : PlainWorld
  pub tells : Bool
  pub world_tells : Bool
  pub faults : ℕ

-- all objects are modelled
abbrev pub all_tell : SlotSeen → Bool
all_tell s = s.tells && s.world_tells

-- the slot of a number may be called
pub record MayStep (number : ℕ) (s : SlotSeen) : Type 0 where
  pub placed : IsAtPlace (names_of s.players) number s.slot
  pub ready : IsReadyAt (length s.players) s.slot s.world.process

-- an open transaction may be called with these modules, whatever its number
abbrev pub IsReadyWith : List Player → PlainSlot → PlainProcess → Type 0
IsReadyWith players (closed conv) process = Unit {0}
IsReadyWith players (opened h) process = IsReadyFor players h process

abbrev pub IsReadyIn : SlotSeen → Type 0
IsReadyIn s = IsReadyWith s.players s.slot s.world.process

-- a transaction without anything to report
abbrev pub IsToldAll : PlainHandle → Type 0
IsToldAll h = h ≡ all_told h

abbrev pub HasNoData : PlainHandle → Type 0
HasNoData h = h.room.transaction.datums.live ≡ []

-- A call in the slot of a number, with real objects and with modelled ones: its result, and the slot and the world after
-- it.
pub record CalledInSlot (number : ℕ) (call : AppCall) (old : SlotSeen)
    (result : Result Outcome NoMemory) (new : PlainSlot) (after : PlainWorld) : Type 0 where
  pub told : (number_of : Code → ℕ → ℕ) → old.gives number_of → IsTrue (all_tell old) →
      IfOk result (λ o. SlotStepsAs (slot_step old.players number_of number old.slot old.world call)
      (plain_outcome o) new after)
  pub alone : (number_of : Code → ℕ → ℕ) → stays_inside (Some old.slot) call ≡ true →
      IfOk result (λ o. SlotStepsAs (slot_step old.players number_of number old.slot old.world call)
      (plain_outcome o) new after)
  pub answers : IfOk result (λ o. AnswersBy (refusal (Some old.slot) call) call o.answer)
  pub traces : IfOk result (λ o. TracesIn call old.slot new (plain_outcome o))
  pub filed_from : IfOk result (λ o. o.filed_from ≡ filed_in old.world)
  pub succeeds : takes_no_memory (Some old.slot) call ≡ true → IsOk result
  pub fails : OnErr result (Fails old.tells call old.slot new)
  pub stops : OnErr result (StopsOn old.players (all_tell old) call old.slot new old.world after)
  pub placed : IsAtPlace (names_of old.players) number new
  pub spends : SpendsAt (notes_of old.players) (length old.players) (Some old.slot) call
      (data_in number (Some old.slot)) old.world.process.ledger (data_in number (Some new))
      after.process.ledger
  pub root : after.process.root ≡ old.world.process.root
  pub caller : after.process.caller ≡ old.world.process.caller

-- A call in the slot of a number, with the world before and after it: its result, and what it leaves of the world.
pub record CallsPlace {World : Type 0} (number : ℕ) (call : AppCall) (old : SlotSeen)
    (before : World) (result : Result Outcome NoMemory) (new : SlotSeen) (after : World)
    : Type 0 where
  pub still_tells : new.tells ≡ old.tells
  pub world_tells : new.world_tells ≡ old.world_tells
  pub goes : CalledInSlot number call old result new.slot new.world
  pub world : leaves_world (Some old.slot) call ≡ true → after ≡ before

-- the number of the transaction in a slot
abbrev pub number_in : PlainSlot → ℕ
number_in (closed conv) = 0
number_in (opened h) = h.room.transaction.handle

-- a call on an open transaction, whatever its number
abbrev pub CallsOpen : {World : Type 0} → AppCall → SlotSeen → World → Result Outcome NoMemory
    → SlotSeen → World → Type 0
CallsOpen call old before result new after =
    CallsPlace (number_in old.slot) call old before result new after

-- A step, which may be a start: a call after which the count of failed accesses is as its result
-- says.
pub record StepsPlace {World : Type 0} (number : ℕ) (call : AppCall) (old : SlotSeen)
    (before : World) (result : Result Outcome NoMemory) (new : SlotSeen) (after : World)
    : Type 0 where
  pub calls : CallsPlace number call old before result new after
  pub counts : IfOk result (λ o. CountsRefusal o.answer old.faults new.faults)
  pub hides_none : OnErr result (HidesNoFault call old.faults new.faults)

-- A call that stays inside an open transaction without anything to report: its result is exact with real objects too.
pub record StaysInside (call : AppCall) (filed : ℕ) (old : PlainHandle)
    (result : Result Outcome NoMemory) (new : PlainHandle) : Type 0 where
  pub steps : (players : List Player) (number_of : Code → ℕ → ℕ) (w : PlainWorld)
      → filed_in w ≡ filed →
      IfOk result (λ o. SlotStepsAs (open_step players number_of old w call) (plain_outcome o)
      (opened new) w)
  pub answers : IfOk result (λ o. CanAnswer call o.answer)
  pub filed_from : IfOk result (λ o. o.filed_from ≡ filed)
  pub succeeds : is_free call ≡ true → IsOk result
  pub fails : OnErr result (new ≡ old)
  pub datums : new.room.transaction.datums ≡ old.room.transaction.datums
  pub handle : new.room.transaction.handle ≡ old.room.transaction.handle
  pub names : new.names ≡ old.names

-- an outcome has nothing to report except its answer
abbrev pub SaysOnly : ℕ → Answer → Outcome → Type 0
SaysOnly filed answer o = plain_outcome o ≡ answers_only filed answer

-- a call that sets something returned SUCCESS, or BAD_ITEM if it was refused; or memory ran out
abbrev pub IsCoded : ℕ → Result (Unit {0}) (Refuse BadItem) → Result Outcome NoMemory → Type 0
IsCoded filed (Ok done) (Ok o) = SaysOnly filed (answers.Code codes.Success) o
IsCoded filed (Ok done) (Err e) = ⊥
IsCoded filed (Err (refusals.Named item)) (Ok o) = SaysOnly filed (answers.Code codes.BadItem) o
IsCoded filed (Err (refusals.Named item)) (Err e) = ⊥
IsCoded filed (Err refusals.NoMemory) (Ok o) = ⊥
IsCoded filed (Err refusals.NoMemory) (Err e) = Unit {0}

-- a reply was offered to a conversation, or memory ran out, and then it holds what it held before
abbrev pub IsOffered : Result Outcome NoMemory → List ℕ → ConvState → ConvState → Type 0
IsOffered (Ok o) text old new = new ≡ offered text old
IsOffered (Err e) text old new = new ≡ old

abbrev pub is_end : AppCall → Bool
is_end (calls.End status) = true
is_end call = false

-- ---- a start

-- the outcome of a start that opened a transaction
abbrev pub opened_outcome : ℕ → PlainHandle → PlainOutcome
opened_outcome filed h =
    record (answers_only filed (answers.Code codes.Success))
    { missing = missing_from h.names h.stacks }

-- A transaction without module data was opened in a slot; or memory ran out for the names of the missing modules, and
-- its slot is closed with its conversation. Nothing is cleaned up.
pub record OpensPlace (filed : ℕ) (h : PlainHandle) (o : Outcome) (slot : PlainSlot) : Type 0 where
  pub slot_is : slot ≡ opened h
  pub outcome_is : plain_outcome o ≡ opened_outcome filed h

abbrev pub IsOpened : ℕ → PlainHandle → Result Outcome NoMemory → PlainSlot → Type 0
IsOpened filed h (Ok o) slot = OpensPlace filed h o slot
IsOpened filed h (Err e) slot = slot ≡ closed h.room.conv

-- a start was refused by a fault of the configuration, or ran out of memory
abbrev pub IsRefused : ℕ → Refuse LoadFault → Result Outcome NoMemory → Type 0
IsRefused filed (refusals.Named fault) (Ok o) = SaysOnly filed (answers.Refused fault) o
IsRefused filed (refusals.Named fault) (Err e) = ⊥
IsRefused filed refusals.NoMemory (Ok o) = ⊥
IsRefused filed refusals.NoMemory (Err e) = Unit {0}
