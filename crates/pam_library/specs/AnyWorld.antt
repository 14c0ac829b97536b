-- What holds after a step with real objects, and out of memory too (this project's own).
use Rattle.std.specs.Prelude.{◌≡◌, ℕ, ◌⊎◌, not, Bool, true, false, if◌then◌else◌, Option, Some, None, is_some, IsTrue, List, [], ◌∷◌, reverse}
use Rattle.std.specs.Option.{option_map}
use Rattle.pam_base.specs.declared.code.Code.TheVariants as codes
use Rattle.pam_base.specs.declared.call.Func.{Func}
use Rattle.pam_base.specs.declared.call.AppCall.{AppCall}
use Rattle.pam_base.specs.declared.call.AppCall.TheVariants as calls
use Rattle.pam_handle.specs.item_store.specs.Access.{is_refused as is_refused_item}
use Rattle.pam_handle.specs.item_store.specs.declared.access.Access.TheVariants.{ApplicationSets, ApplicationGets}
use Rattle.pam_handle.specs.env_list.specs.Environment.{is_deletion}
use Rattle.pam_handle.specs.service_load.specs.Kinds.{KindCounts}
use Rattle.conv_port.specs.Conv.{ConvState}
use Rattle.data_cleanup.specs.DataList.{PlainDataList}
use Rattle.data_cleanup.specs.Ledger.{PlainLedger}
use Rattle.data_cleanup.specs.Cleanup.{Notes, ledger_after}
use Rattle.data_cleanup.specs.Grows.{Grows}
use Rattle.data_cleanup.specs.Due.{Event, ends}
use Rattle.data_cleanup.specs.Modelled.{clean_list}
use Rattle.pam_handle.specs.dispatch_core.specs.Pending.{Pending}
use Rattle.pam_handle.specs.Items.{all_told, with_conversation}
use Rattle.pam_handle.specs.AnyWorld.{FailsAs}
use Rattle.pam_handle.specs.Around.{Around, CallSeen}
use Rattle.pam_handle.specs.Handle.{PlainHandle}
use Rattle.pam_handle.specs.Stopping.{Stops}
use Rattle.pam_handle.specs.pam_room.specs.Module.{Player}
use Rattle.pam_handle.specs.pam_room.specs.State.{PlainWorld}
use Rattle.pam_library.specs.declared.outcome.Answer.{Answer}
use Rattle.pam_library.specs.declared.outcome.Answer.TheVariants as answers
use Rattle.pam_library.specs.Slots.{PlainSlot, closed, opened}
use Rattle.pam_library.specs.StackOf.{stack_of}
use Rattle.pam_library.specs.SlotStep.{is_refused_for_flags, other_pending}

-- ---- what is returned because of number, slot and pending call, in this order

abbrev pub stack_refusal : Option Pending → Func → ℕ → Option Answer
stack_refusal pending func flags =
    if is_refused_for_flags func flags then Some (answers.Code codes.SystemErr)
    else option_map answers.Pending (other_pending pending func)

abbrev pub open_refusal_by : Option Pending → Option (Func × ℕ) → AppCall → Option Answer
open_refusal_by pending (Some stack) call = stack_refusal pending stack.0 stack.1
open_refusal_by pending None (calls.Start service user) = Some answers.AlreadyOpen
open_refusal_by pending None call = None

abbrev pub open_refusal : Option Pending → AppCall → Option Answer
open_refusal pending call = open_refusal_by pending (stack_of call) call

abbrev pub closed_refusal : AppCall → Option Answer
closed_refusal (calls.Start service user) = None
closed_refusal (calls.Reply text) = None
closed_refusal call = Some answers.NotOpen

abbrev pub refusal : Option PlainSlot → AppCall → Option Answer
refusal None call = Some answers.BadNumber
refusal (Some (closed conv)) call = closed_refusal call
refusal (Some (opened h)) call = open_refusal h.pending call

-- ---- which steps use something outside: files, modules or a conversation

abbrev pub starts_or_replies : AppCall → Bool
starts_or_replies (calls.Start service user) = true
starts_or_replies (calls.Reply text) = true
starts_or_replies call = false

abbrev pub needs_outside : AppCall → Bool
needs_outside call = if is_some (stack_of call) then true else starts_or_replies call

-- A step stays inside if its call does, or if it is refused.
abbrev pub stays_inside : Option PlainSlot → AppCall → Bool
stays_inside slot call = if is_some (refusal slot call) then true else not (needs_outside call)

-- the calls that use the world
abbrev pub starts_or_ends : AppCall → Bool
starts_or_ends (calls.Start service user) = true
starts_or_ends (calls.End status) = true
starts_or_ends call = false

abbrev pub touches_world : AppCall → Bool
touches_world call = if is_some (stack_of call) then true else starts_or_ends call

-- a step leaves the world as it was if its call doesn't use it, or if it is refused
abbrev pub leaves_world : Option PlainSlot → AppCall → Bool
leaves_world slot call = if is_some (refusal slot call) then true else not (touches_world call)

-- ---- which results a call can have if it isn't refused by these

abbrev pub is_code : Answer → Bool
is_code (answers.Code code) = true
is_code answer = false

abbrev pub is_refused : Answer → Bool
is_refused (answers.Refused fault) = true
is_refused answer = false

abbrev pub is_value : Answer → Bool
is_value (answers.Value value) = true
is_value answer = false

abbrev pub is_list : Answer → Bool
is_list (answers.List texts) = true
is_list answer = false

abbrev pub succeeds_or_bad_item : Bool → Answer
succeeds_or_bad_item bad = answers.Code (if bad then codes.BadItem else codes.Success)

abbrev pub GetsItem : Bool → Answer → Type 0
GetsItem true answer = answer ≡ answers.Code codes.BadItem
GetsItem false answer = IsTrue (is_value answer)

abbrev pub CanAnswerBy : Option (Func × ℕ) → AppCall → Answer → Type 0
CanAnswerBy None (calls.Start service user) answer = (answer ≡ answers.Code codes.Success)
    ⊎ IsTrue (is_refused answer)
CanAnswerBy None (calls.End status) answer = answer ≡ answers.Code codes.Success
CanAnswerBy None (calls.SetItem item value) answer =
    answer ≡ succeeds_or_bad_item (is_refused_item ApplicationSets item)
CanAnswerBy None (calls.GetItem item) answer =
    GetsItem (is_refused_item ApplicationGets item) answer
CanAnswerBy None (calls.PutEnv text) answer = (answer ≡ answers.Code codes.Success)
    ⊎ (answer ≡ answers.Code codes.BadItem)
CanAnswerBy None (calls.GetEnv name) answer = IsTrue (is_value answer)
CanAnswerBy None calls.EnvList answer = IsTrue (is_list answer)
CanAnswerBy None (calls.FailDelay micros) answer = answer ≡ answers.Code codes.Success
CanAnswerBy None (calls.DelayFn on) answer = answer ≡ answers.Code codes.Success
CanAnswerBy None (calls.Reply text) answer = answer ≡ answers.Nothing
CanAnswerBy stack call answer = IsTrue (is_code answer)

abbrev pub CanAnswer : AppCall → Answer → Type 0
CanAnswer call answer = CanAnswerBy (stack_of call) call answer

-- the result of a step, with real objects too: if number, slot or pending call refuse it, what they
-- say; else one of those that its call can have
abbrev pub AnswersBy : Option Answer → AppCall → Answer → Type 0
AnswersBy (Some refused) call answer = answer ≡ refused
AnswersBy None call answer = CanAnswer call answer

-- with real objects too: if a start is refused, the count of failed file accesses rises if a file couldn't be read, and
-- with no other fault
abbrev pub CountsRefusal : Answer → ℕ → ℕ → Type 0
CountsRefusal (answers.Refused fault) before now = KindCounts fault.kind before now
CountsRefusal answer before now = Unit {0}

-- with real objects too: a start that runs out of memory had no failed file access
abbrev pub HidesNoFault : AppCall → ℕ → ℕ → Type 0
HidesNoFault (calls.Start service user) before now = now ≡ before
HidesNoFault call before now = Unit {0}

-- ---- memory

-- the calls that allocate nothing
abbrev pub is_free : AppCall → Bool
is_free (calls.End status) = true
is_free (calls.SetItem item None) = true
is_free (calls.PutEnv text) = is_deletion text
is_free (calls.FailDelay micros) = true
is_free (calls.DelayFn on) = true
is_free call = false

abbrev pub takes_no_memory : Option PlainSlot → AppCall → Bool
takes_no_memory slot call = if is_some (refusal slot call) then true else is_free call

-- the record of an open transaction from before the step counts as taken
abbrev pub told_slot : PlainSlot → PlainSlot
told_slot (closed conv) = closed conv
told_slot (opened h) = opened (all_told h)

abbrev pub with_conv : ConvState → PlainSlot → PlainSlot
with_conv conv (closed old) = closed conv
with_conv conv (opened h) = opened (with_conversation conv h)

abbrev pub conv_of : PlainSlot → ConvState
conv_of (closed conv) = conv
conv_of (opened h) = h.room.conv

-- a stack call ran out of memory
abbrev pub StackFails : Func → PlainSlot → PlainSlot → Type 0
StackFails func (opened old) (opened new) = FailsAs func (all_told old) new
StackFails func old new = ⊥

-- a reply ran out of memory: a modelled conversation holds what it held before
pub record ReplyFails (tells : Bool) (old new : PlainSlot) : Type 0 where
  pub rest : new ≡ with_conv (conv_of new) (told_slot old)
  pub told : IsTrue tells → new ≡ told_slot old

-- A step ran out of memory. A start leaves its slot closed with its conversation; any other call except a stack call or
-- a reply leaves everything as it was.
abbrev pub FailsBy : Bool → Option (Func × ℕ) → AppCall → PlainSlot → PlainSlot → Type 0
FailsBy tells (Some stack) call old new = StackFails stack.0 old new
FailsBy tells None (calls.Reply text) old new = ReplyFails tells old new
FailsBy tells None call old new = new ≡ told_slot old

abbrev pub Fails : Bool → AppCall → PlainSlot → PlainSlot → Type 0
Fails tells call old new = FailsBy tells (stack_of call) call old new

-- a transaction and a world by what they hold, if it is known only whether all objects are modelled; what the delay
-- function returns doesn't matter
abbrev pub seen_of : List Player → Bool → PlainHandle → PlainWorld → CallSeen
seen_of players tells h w = record {
  players = players;
  gives = λ number. Unit {0};
  handle = h;
  world = w;
  tells = true;
  world_tells = tells;
  nap_tells = tells;
}

abbrev pub around_of : List Player → Bool → PlainHandle → PlainHandle → PlainWorld → PlainWorld
    → Around
around_of players tells old new w v = record {
  old = seen_of players tells old w;
  new = seen_of players tells new v;
  handle_is_kept = new ≡ old;
  world_is_kept = v ≡ w;
  nap_is_kept = v.nap ≡ w.nap;
}

-- a stack call ran out of memory: the line at which it did, by what its transaction and the world then hold
abbrev pub StackStops : Func → ℕ → List Player → Bool → PlainSlot → PlainSlot → PlainWorld
    → PlainWorld → Type 0
StackStops func flags players tells (opened old) (opened new) w v =
    Stops func flags (around_of players tells (all_told old) new w v)
StackStops func flags players tells old new w v = ⊥

-- the same for the slot with a number, which must exist
abbrev pub FailsAt : Bool → AppCall → Option PlainSlot → Option PlainSlot → Type 0
FailsAt tells call (Some old) (Some new) = Fails tells call old new
FailsAt tells call old new = ⊥

-- what a stack call had done by the time its step ran out of memory
abbrev pub StopsBy : List Player → Bool → Option (Func × ℕ) → PlainSlot → PlainSlot → PlainWorld
    → PlainWorld → Type 0
StopsBy players tells (Some stack) old new w v =
    StackStops stack.0 stack.1 players tells old new w v
StopsBy players tells None old new w v = Unit {0}

abbrev pub StopsOn : List Player → Bool → AppCall → PlainSlot → PlainSlot → PlainWorld → PlainWorld
    → Type 0
StopsOn players tells call old new w v = StopsBy players tells (stack_of call) old new w v

abbrev pub StopsAt : List Player → Bool → AppCall → Option PlainSlot → Option PlainSlot → PlainWorld
    → PlainWorld → Type 0
StopsAt players tells call (Some old) (Some new) w v = StopsOn players tells call old new w v
StopsAt players tells call old new w v = ⊥

-- ---- module data

-- the module data of a transaction were cleaned up at its end, with this status
pub record IsEndOf (note : Notes) (status : ℕ) (old : PlainDataList) (before : PlainLedger)
    (new : PlainDataList) (after : PlainLedger) : Type 0 where
  pub ledger : after ≡ ledger_after note status (reverse old.live) before
  pub list : new ≡ clean_list old.handle []

-- nothing was set and nothing cleaned up
pub record IsUntouched (old : PlainDataList) (before : PlainLedger) (new : PlainDataList)
    (after : PlainLedger) : Type 0 where
  pub ledger : after ≡ before
  pub list : new ≡ old

-- what a call in an open transaction does to its module data and the cleanup log
abbrev pub SpendsAs : Notes → ℕ → AppCall → PlainDataList → PlainLedger → PlainDataList
    → PlainLedger → Type 0
SpendsAs note modules (calls.End status) old before new after =
    IsEndOf note status old before new after
SpendsAs note modules call old before new after = Grows note modules old before new after

-- what a step does to the module data of its number and the cleanup log
abbrev pub SpendsAt : Notes → ℕ → Option PlainSlot → AppCall → PlainDataList → PlainLedger
    → PlainDataList → PlainLedger → Type 0
SpendsAt note modules (Some (opened h)) call old before new after =
    SpendsAs note modules call old before new after
SpendsAt note modules (Some (closed conv)) call old before new after =
    IsUntouched old before new after
SpendsAt note modules None call old before new after = IsUntouched old before new after

-- the event if a call on an open transaction of a number is an end
abbrev pub end_of_call : ℕ → AppCall → List Event
end_of_call number (calls.End status) = ends number status ∷ []
end_of_call number call = []

-- the event if a call in the slot of a number is an end
abbrev pub end_at : Option PlainSlot → ℕ → AppCall → List Event
end_at (Some (opened h)) number call = end_of_call number call
end_at (Some (closed conv)) number call = []
end_at None number call = []
