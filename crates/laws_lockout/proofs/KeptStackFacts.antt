-- Every call on a transaction keeps its stacks.
use Rattle.std.proofs.Common.{◌≡◌, ℕ, zero, suc, Bool, true, false, if◌then◌else◌, List, [], ◌∷◌, Option, Some, None, Result, Ok, Err, slice_get, slice_set, refl, sym, subst}
use Rattle.std.specs.List.{AllByRecursion}
use Rattle.pam_base.specs.declared.code.Code.{Code}
use Rattle.pam_base.specs.declared.code.Code.TheVariants as codes
use Rattle.pam_base.specs.declared.call.AppCall.{AppCall}
use Rattle.pam_base.specs.declared.call.AppCall.TheVariants as calls
use Rattle.pam_base.specs.declared.call.Func.{Func}
use Rattle.pam_base.specs.declared.call.Func.TheVariants as funcs
use Rattle.pam_base.specs.declared.call.Step.{Step}
use Rattle.conv_port.specs.Conv.{ConvState}
use Rattle.env_list.specs.Environment.{is_refused as is_refused_text}
use Rattle.item_store.specs.Access.{is_refused as is_refused_item}
use Rattle.item_store.specs.declared.access.Access.TheVariants.{ApplicationSets, ApplicationGets}
use Rattle.service_load.specs.FirstFault.{Counts, Stop}
use Rattle.service_load.specs.Load.{loaded}
use Rattle.service_load.specs.Stacks.{Stacks}
use Rattle.dispatch_core.specs.Lines.{names_of}
use Rattle.dispatch_core.specs.Pending.{is_other_pending}
use Rattle.pam_room.specs.Module.{Player}
use Rattle.pam_room.specs.State.{PlainWorld}
use Rattle.pam_handle.specs.AfterPasses.{EndsLeaveIt}
use Rattle.pam_handle.specs.Call.{Called, called}
use Rattle.pam_handle.specs.Handle.{PlainHandle}
use Rattle.pam_handle.specs.Items.{all_told}
use Rattle.pam_handle.specs.StackCalls.{finished, passes_of, stack_call}
use Rattle.pam_handle.specs.Start.{new_handle, stacks_under, started_by}
use Rattle.pam_library.specs.SlotStep.{SlotStepped, closed_step, filed_in, is_refused_for_flags, open_step, opened_by, other_pending, slot_step, stack_step, unless_pending}
use Rattle.pam_library.specs.Slots.{PlainSlot, closed, opened, slot_at, with_slot}
use Rattle.pam_library.specs.Step.{stepped, stepped_at}
use Rattle.laws_lockout.specs.Calls.{FindsSuch, HasSuch}

-- ---- all slots

module _ (Such : Stacks → Type 0) where
  abbrev pub AllHave : List PlainSlot → Type 0
  AllHave slots = AllByRecursion (HasSuch Such) slots

  abbrev pub HasIf : Option PlainSlot → Type 0
  HasIf None = Unit {0}
  HasIf (Some slot) = HasSuch Such slot

  have_get : (slots : List PlainSlot) (i : ℕ) → AllHave slots → HasIf (slice_get slots i)
  have_get [] i all = tt
  have_get (s ∷ slots) zero all = all.0
  have_get (s ∷ slots) (suc i) all = have_get slots i all.1

  pub have_at : (slots : List PlainSlot) (number : ℕ) → AllHave slots → HasIf (slot_at slots number)
  have_at slots zero all = tt
  have_at slots (suc i) all = have_get slots i all

  have_set : (slots : List PlainSlot) (i : ℕ) (slot : PlainSlot) → AllHave slots → HasSuch Such slot → AllHave (slice_set slots i slot)
  have_set [] i slot all has = tt
  have_set (s ∷ slots) zero slot all has = (has, all.1)
  have_set (s ∷ slots) (suc i) slot all has = (all.0, have_set slots i slot all.1 has)

  have_with : (slots : List PlainSlot) (number : ℕ) (slot : PlainSlot) → AllHave slots → HasSuch Such slot → AllHave (with_slot slots number slot)
  have_with slots zero slot all has = all
  have_with slots (suc i) slot all has = have_set slots i slot all has

module _ (ends : EndsLeaveIt) (players : List Player) (number_of : Code → ℕ → ℕ) where
  -- ---- a stack call

  abbrev Keeps : PlainHandle → Called → Type 0
  Keeps h c = c.handle.stacks ≡ h.stacks

  either_keeps : (h : PlainHandle) (refused other : Bool) (a b c : Called) → Keeps h a → Keeps h b → Keeps h c
      → Keeps h (if refused then a else if other then b else c)
  either_keeps h true other a b c k l m = k
  either_keeps h false true a b c k l m = l
  either_keeps h false false a b c k l m = m

  call_keeps : (func : Func) (flags : ℕ) (h : PlainHandle) (w : PlainWorld) → Keeps h (stack_call players number_of func flags h w)
  call_keeps func flags h w =
      let r = passes_of players func flags h w in
      either_keeps h (is_refused_for_flags func flags) (is_other_pending h.pending func) (called codes.SystemErr h w) (called codes.Abort h w)
      (finished number_of func r h) refl refl (ends number_of func r h).stacks

  -- ---- a call in a slot

  module _ (Such : Stacks → Type 0) where
    abbrev Has : SlotStepped → Type 0
    Has s = HasSuch Such s.slot

    has_if : (b : Bool) (s t : SlotStepped) → Has s → Has t → Has (if b then s else t)
    has_if true s t k l = k
    has_if false s t k l = l

    has_unless : (other : Option Func) (h : PlainHandle) (w : PlainWorld) (s : SlotStepped) → Such h.stacks → Has s → Has (unless_pending other (opened h) w s)
    has_unless None h w s k l = l
    has_unless (Some func) h w s k l = k

    stack_has : (func : Func) (flags : ℕ) (h : PlainHandle) (w : PlainWorld) → Such h.stacks → Has (stack_step players number_of func flags h w)
    stack_has func flags h w has =
        has_if (is_refused_for_flags func flags) _ _ has
        (has_unless (other_pending h.pending func) h w _ has (subst Such (sym (call_keeps func flags h w)) has))

    open_has : (call : AppCall) (h : PlainHandle) (w : PlainWorld) → Such h.stacks → Has (open_step players number_of h w call)
    open_has (calls.Start service user) h w has = has
    open_has (calls.End status) h w has = tt
    open_has (calls.Authenticate flags) h w has = stack_has funcs.Authenticate flags h w has
    open_has (calls.SetCred flags) h w has = stack_has funcs.SetCred flags h w has
    open_has (calls.AcctMgmt flags) h w has = stack_has funcs.AcctMgmt flags h w has
    open_has (calls.OpenSession flags) h w has = stack_has funcs.OpenSession flags h w has
    open_has (calls.CloseSession flags) h w has = stack_has funcs.CloseSession flags h w has
    open_has (calls.ChAuthTok flags) h w has = stack_has funcs.ChAuthTok flags h w has
    open_has (calls.SetItem item value) h w has = has_if (is_refused_item ApplicationSets item) _ _ has has
    open_has (calls.GetItem item) h w has = has_if (is_refused_item ApplicationGets item) _ _ has has
    open_has (calls.PutEnv text) h w has = has_if (is_refused_text text h.room.transaction.env) _ _ has has
    open_has (calls.GetEnv name) h w has = has
    open_has calls.EnvList h w has = has
    open_has (calls.FailDelay micros) h w has = has
    open_has (calls.DelayFn on) h w has = has
    open_has (calls.Reply text) h w has = has

    start_has : (number : ℕ) (service : List ℕ) (user : Option (List ℕ)) (conv : ConvState) (w : PlainWorld) (found : Result Counts Stop)
        → Such (stacks_under w.vault w.process.root service)
        → let s = started_by (new_handle number service user conv (names_of players)) found (stacks_under w.vault w.process.root service) w in
        Has (opened_by (names_of players) conv (filed_in w) s.world s.answer)
    start_has number service user conv w (Ok counts) finds = finds
    start_has number service user conv w (Err stop) finds = tt

    closed_has : (call : AppCall) (number : ℕ) (conv : ConvState) (w : PlainWorld) → FindsSuch Such w call
        → Has (closed_step players number_of number conv w call)
    closed_has (calls.Start service user) number conv w finds = start_has number service user conv w (loaded w.vault w.process.root service) finds
    closed_has (calls.End status) number conv w finds = tt
    closed_has (calls.Authenticate flags) number conv w finds = tt
    closed_has (calls.SetCred flags) number conv w finds = tt
    closed_has (calls.AcctMgmt flags) number conv w finds = tt
    closed_has (calls.OpenSession flags) number conv w finds = tt
    closed_has (calls.CloseSession flags) number conv w finds = tt
    closed_has (calls.ChAuthTok flags) number conv w finds = tt
    closed_has (calls.SetItem item value) number conv w finds = tt
    closed_has (calls.GetItem item) number conv w finds = tt
    closed_has (calls.PutEnv text) number conv w finds = tt
    closed_has (calls.GetEnv name) number conv w finds = tt
    closed_has calls.EnvList number conv w finds = tt
    closed_has (calls.FailDelay micros) number conv w finds = tt
    closed_has (calls.DelayFn on) number conv w finds = tt
    closed_has (calls.Reply text) number conv w finds = tt

    slot_has : (call : AppCall) (number : ℕ) (slot : PlainSlot) (w : PlainWorld) → HasSuch Such slot → FindsSuch Such w call
        → Has (slot_step players number_of number slot w call)
    slot_has call number (closed conv) w has finds = closed_has call number conv w finds
    slot_has call number (opened h) w has finds = open_has call (all_told h) w has

    -- ---- all slots

    found_have : (slots : List PlainSlot) (w : PlainWorld) (step : Step) (found : Option PlainSlot) → AllHave Such slots → HasIf Such found → FindsSuch Such w step.call
        → AllHave Such (stepped_at players number_of slots w step.number step.call found).slots
    found_have slots w step None all has finds = all
    found_have slots w step (Some slot) all has finds = have_with Such slots step.number _ all (slot_has step.call step.number slot w has finds)

    pub step_has : (slots : List PlainSlot) (w : PlainWorld) (step : Step) → AllHave Such slots → FindsSuch Such w step.call
        → AllHave Such (stepped players number_of slots w step).slots
    unfolding stepped
    step_has slots w step all finds = found_have slots w step (slot_at slots step.number) all (have_at Such slots step.number all) finds
