-- A step in an open slot: what its transaction had to report before is dropped.
use Rattle.std.proofs.Common.{◌≡◌, ℕ, Bool, true, false, ◌&&◌, ◌⊎◌, inl, inr, if◌then◌else◌, IsTrue, IfOk, List, Option, Some, None, option_map, Result, Ok, Err, refl, subst}
use Rattle.pam_base.specs.declared.code.Code.{Code}
use Rattle.pam_base.specs.declared.code.Code.TheVariants as codes
use Rattle.pam_base.specs.declared.call.Func.{Func}
use Rattle.pam_base.specs.declared.call.AppCall.{AppCall}
use Rattle.pam_base.specs.declared.call.AppCall.TheVariants as calls
use Rattle.pam_base.specs.declared.fault.NoMemory.{NoMemory}
use Rattle.pam_handle.specs.service_load.specs.declared.load_fault.LoadFault.{LoadFault}
use Rattle.pam_handle.specs.item_store.specs.Access.{is_refused as is_refused_item}
use Rattle.pam_handle.specs.item_store.specs.declared.access.Access.TheVariants.{ApplicationGets}
use Rattle.pam_handle.specs.dispatch_core.specs.Lines.{names_of}
use Rattle.pam_handle.specs.pam_room.specs.Module.{Player}
use Rattle.pam_handle.specs.pam_room.specs.State.{PlainWorld}
use Rattle.pam_handle.specs.Handle.{PlainHandle}
use Rattle.pam_handle.specs.Items.{all_told}
use Rattle.pam_library.specs.declared.outcome.Answer.{Answer}
use Rattle.pam_library.specs.declared.outcome.Answer.TheVariants as answers
use Rattle.pam_library.specs.declared.outcome.Outcome.{Outcome}
use Rattle.pam_library.specs.Slots.{PlainSlot, closed, opened}
use Rattle.pam_library.specs.SlotStep.{is_refused_for_flags, other_pending}
use Rattle.pam_library.specs.Sound.{IsPlaced}
use Rattle.pam_library.specs.AnyWorld.{AnswersBy, CanAnswer, CanAnswerBy, CountsRefusal, Fails, FailsBy, GetsItem, StackFails, StackStops, StopsBy, StopsOn, open_refusal_by, refusal}
use Rattle.pam_library.specs.InPlace.{CalledInSlot}
use Rattle.pam_library.specs.StackOf.{stack_of}
use Rattle.pam_library.proofs.CallTraceFacts.{traced_before}
use Rattle.pam_library.proofs.Within.{failed_by}
use Rattle.pam_library.proofs.SeenSlot.{slot_seen}

stack_fails : (func : Func) (h : PlainHandle) (new : PlainSlot) → StackFails func (opened (all_told h)) new → StackFails func (opened h) new
stack_fails func h (closed conv) f = f
stack_fails func h (opened next) f = f

fails_told : (tells : Bool) (stack : Option (Func × ℕ)) (call : AppCall) (h : PlainHandle) (new : PlainSlot) → FailsBy tells stack call (opened (all_told h)) new
    → FailsBy tells stack call (opened h) new
fails_told tells (Some stack) call h new f = stack_fails stack.0 h new f
fails_told tells None (calls.Reply text) h new f = record { rest = f.rest; told = f.told }
fails_told tells None call h new f = f

stack_stops : (func : Func) (flags : ℕ) (players : List Player) (tells : Bool) (h : PlainHandle) (new : PlainSlot) (w v : PlainWorld) → StackStops func flags players tells (opened (all_told h)) new w v
    → StackStops func flags players tells (opened h) new w v
stack_stops func flags players tells h (closed conv) w v s = s
stack_stops func flags players tells h (opened next) w v s = s

stops_told : (players : List Player) (tells : Bool) (stack : Option (Func × ℕ)) (h : PlainHandle) (new : PlainSlot) (w v : PlainWorld) → StopsBy players tells stack (opened (all_told h)) new w v
    → StopsBy players tells stack (opened h) new w v
stops_told players tells (Some stack) h new w v s = stack_stops stack.0 stack.1 players tells h new w v s
stops_told players tells None h new w v s = s

module _ (players : List Player) (gives : (Code → ℕ → ℕ) → Type 0) (tells world_tells : Bool) (faults : ℕ) (call : AppCall) (h : PlainHandle) (w : PlainWorld) (result : Result Outcome NoMemory) (new : PlainSlot) (v : PlainWorld) where
  from_told : (number : ℕ) → CalledInSlot number call (slot_seen players gives tells world_tells faults (opened (all_told h)) w) result new v
      → CalledInSlot number call (slot_seen players gives tells world_tells faults (opened h) w) result new v
  from_told number goes = record {
    told = goes.told;
    alone = goes.alone;
    answers = goes.answers;
    traces = traced_before (stack_of call) result h new goes.traces;
    filed_from = goes.filed_from;
    succeeds = goes.succeeds;
    fails = failed_by result (Fails tells call (opened (all_told h)) new) (Fails tells call (opened h) new) (fails_told tells (stack_of call) call h new) goes.fails;
    stops = failed_by result (StopsOn players (tells && world_tells) call (opened (all_told h)) new w v) (StopsOn players (tells && world_tells) call (opened h) new w v) (stops_told players (tells && world_tells) (stack_of call) h new w v) goes.stops;
    placed = goes.placed;
    spends = goes.spends;
    root = goes.root;
    caller = goes.caller;
  }

  pub onward : (number : ℕ) (next : PlainHandle) (told_tells : Bool) → next ≡ all_told h → told_tells ≡ tells → IsPlaced (names_of players) number h
      → CalledInSlot next.room.transaction.handle call (slot_seen players gives told_tells world_tells faults (opened next) w) result new v
      → CalledInSlot number call (slot_seen players gives tells world_tells faults (opened h) w) result new v
  onward number next told_tells same still placed goes =
      from_told number
      (subst (λ (b : Bool). CalledInSlot number call (slot_seen players gives b world_tells faults (opened (all_told h)) w) result new v) still
      (subst (λ (k : ℕ). CalledInSlot k call (slot_seen players gives told_tells world_tells faults (opened (all_told h)) w) result new v) placed.handle
      (subst (λ (k : PlainHandle). CalledInSlot k.room.transaction.handle call (slot_seen players gives told_tells world_tells faults (opened k) w) result new v) same goes)))

-- ---- an open slot refuses no start for its configuration

not_by_flags : (b : Bool) (o : Option Func) (call : AppCall) (fault : LoadFault) → (CanAnswer call (answers.Refused fault) → ⊥)
    → AnswersBy (if b then Some (answers.Code codes.SystemErr) else option_map answers.Pending o) call (answers.Refused fault) → ⊥
not_by_flags true o call fault never e = cc
not_by_flags false (Some func) call fault never e = cc
not_by_flags false None call fault never e = never e

not_by_item : (b : Bool) (fault : LoadFault) → GetsItem b (answers.Refused fault) → ⊥
not_by_item true fault e = cc
not_by_item false fault e = cc

not_by_env : (fault : LoadFault) → (answers.Refused fault ≡ answers.Code codes.Success) ⊎ (answers.Refused fault ≡ answers.Code codes.BadItem) → ⊥
not_by_env fault (inl e) = cc
not_by_env fault (inr e) = cc

-- by the stack that the call runs, if it runs one
never_by : (h : PlainHandle) (call : AppCall) (fault : LoadFault) (stack : Option (Func × ℕ)) → stack_of call ≡ stack
    → AnswersBy (open_refusal_by h.pending stack call) call (answers.Refused fault) → ⊥
never_by h call fault (Some stack) is e = not_by_flags (is_refused_for_flags stack.0 stack.1) (other_pending h.pending stack.0) call fault
    (λ can. let f : IsTrue false = subst (λ (s : Option (Func × ℕ)). CanAnswerBy s call (answers.Refused fault)) is can in cc) e
never_by h (calls.Start service user) fault None is e = cc
never_by h (calls.End status) fault None is e = cc
never_by h (calls.SetItem item value) fault None is e = cc
never_by h (calls.GetItem item) fault None is e = not_by_item (is_refused_item ApplicationGets item) fault e
never_by h (calls.PutEnv text) fault None is e = not_by_env fault e
never_by h (calls.GetEnv name) fault None is e = cc
never_by h calls.EnvList fault None is e = cc
never_by h (calls.FailDelay micros) fault None is e = cc
never_by h (calls.DelayFn on) fault None is e = cc
never_by h (calls.Reply text) fault None is e = cc
never_by h call fault None is e = cc

never_refused : (h : PlainHandle) (call : AppCall) (fault : LoadFault) → AnswersBy (refusal (Some (opened h)) call) call (answers.Refused fault) → ⊥
never_refused h call fault e = never_by h call fault (stack_of call) refl e

counts_nothing : (h : PlainHandle) (call : AppCall) (answer : Answer) (before now : ℕ) → AnswersBy (refusal (Some (opened h)) call) call answer
    → CountsRefusal answer before now
counts_nothing h call (answers.Refused fault) before now e = absurd (never_refused h call fault e)
counts_nothing h call answer before now e = tt

faults_stay : {E : Type 0} (h : PlainHandle) (call : AppCall) (result : Result Outcome E) (before now : ℕ)
    → IfOk result (λ o. AnswersBy (refusal (Some (opened h)) call) call o.answer) → IfOk result (λ o. CountsRefusal o.answer before now)
faults_stay h call (Ok o) before now e = counts_nothing h call o.answer before now e
faults_stay h call (Err e) before now f = tt

pub no_fault : (players : List Player) (gives : (Code → ℕ → ℕ) → Type 0) (tells world_tells : Bool) (faults : ℕ) (number : ℕ) (call : AppCall) (h : PlainHandle) (w : PlainWorld) (result : Result Outcome NoMemory) (new : PlainSlot) (v : PlainWorld) (before now : ℕ)
    → CalledInSlot number call (slot_seen players gives tells world_tells faults (opened h) w) result new v → IfOk result (λ o. CountsRefusal o.answer before now)
no_fault players gives tells world_tells faults number call h w result new v before now goes = faults_stay h call result before now goes.answers
