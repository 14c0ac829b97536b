-- A stack call on an open transaction.
use Rattle.std.proofs.Common.{◌≡◌, ℕ, Bool, true, false, ◌&&◌, if◌then◌else◌, IsTrue, List, [], length, Option, Some, None, option_map, is_some, not, Ok, Err, refl, sym, ap, ◌∙◌, subst}
use Rattle.pam_base.specs.declared.code.Code.{Code}
use Rattle.pam_base.specs.declared.code.Code.TheVariants as codes
use Rattle.pam_base.specs.declared.call.AppCall.{AppCall}
use Rattle.pam_base.specs.declared.call.AppCall.TheVariants as calls
use Rattle.pam_base.specs.declared.call.Func.{Func}
use Rattle.pam_base.specs.declared.call.Func.TheVariants as funcs
use Rattle.pam_base.specs.declared.fault.NoMemory.{NoMemory}
use Rattle.conv_port.specs.declared.message.Message.{Message}
use Rattle.data_cleanup.specs.DataList.{PlainDataList}
use Rattle.data_cleanup.specs.Ledger.{PlainLedger}
use Rattle.data_cleanup.specs.Cleanup.{Notes}
use Rattle.data_cleanup.specs.Grows.{Grows}
use Rattle.pam_handle.specs.dispatch_core.specs.Lines.{names_of}
use Rattle.pam_handle.specs.pam_room.specs.Module.{Player, notes_of}
use Rattle.pam_handle.specs.pam_room.specs.State.{PlainWorld}
use Rattle.pam_handle.specs.pam_room.specs.declared.visits.Visit.{Visit}
use Rattle.pam_handle.specs.declared.wait.Wait.{Wait}
use Rattle.pam_handle.specs.Handle.{PlainHandle}
use Rattle.pam_handle.specs.Items.{all_told}
use Rattle.pam_handle.specs.Call.{Called, CallsAs}
use Rattle.pam_handle.specs.StackCalled.{DelayGives}
use Rattle.pam_handle.specs.Stopping.{Stops}
use Rattle.pam_handle.specs.StackCalls.{stack_call}
use Rattle.pam_handle.specs.AnyWorld.{FailsAs, RunsSoundly}
use Rattle.pam_library.specs.declared.outcome.Answer.{Answer}
use Rattle.pam_library.specs.declared.outcome.Answer.TheVariants as answers
use Rattle.pam_library.specs.declared.outcome.Outcome.{Outcome}
use Rattle.pam_library.specs.Outcome.{PlainOutcome, plain_outcome, answers_only}
use Rattle.pam_library.specs.Slots.{PlainSlot, opened}
use Rattle.pam_library.specs.SlotStep.{SlotStepped, SlotStepsAs, answered, filed_in, is_refused_for_flags, open_step_by, other_pending, slot_step, stack_step, told_by, unless_pending}
use Rattle.pam_library.specs.Sound.{IsPlaced}
use Rattle.pam_library.specs.AnyWorld.{AnswersBy, CanAnswer, CanAnswerBy, Fails, FailsBy, SpendsAt, StopsBy, StopsOn, around_of, is_free, leaves_world, needs_outside, open_refusal_by, refusal, stack_refusal, starts_or_ends, starts_or_replies, stays_inside, takes_no_memory, touches_world}
use Rattle.pam_library.specs.StackOf.{stack_of}
use Rattle.pam_library.specs.InPlace.{CalledInSlot, SaysOnly}
use Rattle.pam_library.specs.Traced.{TracesIn}
use Rattle.pam_library.proofs.CallTraceFacts.{refused_untraced}
use Rattle.pam_library.proofs.SeenSlot.{slot_seen}

-- ---- the six calls

-- what the delay function returns is known to every call if it is known to authenticate
pub delay_gives : (func : Func) (gives : (Code → ℕ → ℕ) → Type 0) (number_of : Code → ℕ → ℕ) → gives number_of → DelayGives func gives number_of
delay_gives funcs.Authenticate gives number_of given = given
delay_gives func gives number_of given = tt

-- a call that runs a stack, by its function and flags
module _ (call : AppCall) (func : Func) (flags : ℕ) (is : stack_of call ≡ Some (func, flags)) where
  step_is : (players : List Player) (number_of : Code → ℕ → ℕ) (number : ℕ) (h : PlainHandle) (w : PlainWorld)
      → slot_step players number_of number (opened h) w call ≡ stack_step players number_of func flags (all_told h) w
  step_is players number_of number h w = ap (λ (s : Option (Func × ℕ)). open_step_by players number_of s (all_told h) w call) is

  refusal_is : (h : PlainHandle) → refusal (Some (opened h)) call ≡ stack_refusal h.pending func flags
  refusal_is h = ap (λ (s : Option (Func × ℕ)). open_refusal_by h.pending s call) is

  needs_is : needs_outside call ≡ true
  needs_is = ap (λ (s : Option (Func × ℕ)). if is_some s then true else starts_or_replies call) is

  touches_is : touches_world call ≡ true
  touches_is = ap (λ (s : Option (Func × ℕ)). if is_some s then true else starts_or_ends call) is

  code_can : (code : Code) → CanAnswer call (answers.Code code)
  code_can code = subst (λ (s : Option (Func × ℕ)). CanAnswerBy s call (answers.Code code)) (sym is) refl

  fails_is : (tells : Bool) (h next : PlainHandle) → FailsAs func (all_told h) next → Fails tells call (opened h) (opened next)
  fails_is tells h next f = subst (λ (s : Option (Func × ℕ)). FailsBy tells s call (opened h) (opened next)) (sym is) f

  stops_is : (players : List Player) (tells : Bool) (h next : PlainHandle) (w v : PlainWorld) → Stops func flags (around_of players tells (all_told h) next w v)
      → StopsOn players tells call (opened h) (opened next) w v
  stops_is players tells h next w v stops = subst (λ (s : Option (Func × ℕ)). StopsBy players tells s (opened h) (opened next) w v) (sym is) stops

free_is : (call : AppCall) (stack : Func × ℕ) → stack_of call ≡ Some stack → is_free call ≡ false
free_is (calls.End status) stack is = absurd (cc)
free_is (calls.SetItem item None) stack is = absurd (cc)
free_is (calls.PutEnv text) stack is = absurd (cc)
free_is (calls.FailDelay micros) stack is = absurd (cc)
free_is (calls.DelayFn on) stack is = absurd (cc)
free_is call stack is = refl

spends_is : (note : Notes) (modules : ℕ) (call : AppCall) (stack : Func × ℕ) (h : PlainHandle) (old new : PlainDataList) (before after : PlainLedger)
    → stack_of call ≡ Some stack → Grows note modules old before new after → SpendsAt note modules (Some (opened h)) call old before new after
spends_is note modules (calls.End status) stack h old new before after is g = absurd (cc)
spends_is note modules call stack h old new before after is g = g

-- ---- refused, or run

refused_by : (b : Bool) (o : Option Func) (slot : PlainSlot) (w : PlainWorld) (s : SlotStepped) (refused : Answer)
    → (if b then Some (answers.Code codes.SystemErr) else option_map answers.Pending o) ≡ Some refused
    → (if b then answered slot w (answers.Code codes.SystemErr) else unless_pending o slot w s) ≡ answered slot w refused
refused_by true o slot w s refused e = let f : answers.Code codes.SystemErr ≡ refused = cc in ap (answered slot w) f
refused_by false None slot w s refused e = absurd (cc)
refused_by false (Some func) slot w s refused e = let f : answers.Pending func ≡ refused = cc in ap (answered slot w) f

run_by : (b : Bool) (o : Option Func) (slot : PlainSlot) (w : PlainWorld) (s : SlotStepped)
    → ◌≡◌ {A = Option Answer} (if b then Some (answers.Code codes.SystemErr) else option_map answers.Pending o) None
    → (if b then answered slot w (answers.Code codes.SystemErr) else unless_pending o slot w s) ≡ s
run_by true o slot w s e = absurd (cc)
run_by false None slot w s e = refl
run_by false (Some func) slot w s e = absurd (cc)

-- the step of a call that isn't refused
called_as : (players : List Player) (number_of : Code → ℕ → ℕ) (number : ℕ) (call : AppCall) (func : Func) (flags : ℕ) → stack_of call ≡ Some (func, flags)
    → (h : PlainHandle) (w : PlainWorld) → ◌≡◌ {A = Option Answer} (stack_refusal h.pending func flags) None → h ≡ all_told h
    → slot_step players number_of number (opened h) w call
    ≡ told_by (filed_in w) (answers.Code (stack_call players number_of func flags h w).code) (stack_call players number_of func flags h w)
called_as players number_of number call func flags is h w none told =
    let by : PlainHandle → SlotStepped = λ (k : PlainHandle). told_by (filed_in w) (answers.Code (stack_call players number_of func flags k w).code) (stack_call players number_of func flags k w) in
    step_is call func flags is players number_of number h w
    ∙ run_by (is_refused_for_flags func flags) (other_pending h.pending func) (opened (all_told h)) w (by (all_told h)) none
    ∙ ap by (sym told)

inside_false : (r : Option Answer) (needs : Bool) → r ≡ None → needs ≡ true → (if is_some r then true else not needs) ≡ true → ⊥
inside_false (Some a) needs r n e = cc
inside_false None false r n e = cc
inside_false None true r n e = cc

memory_false : (r : Option Answer) (free : Bool) → r ≡ None → free ≡ false → (if is_some r then true else free) ≡ true → ⊥
memory_false (Some a) free r n e = cc
memory_false None true r n e = cc
memory_false None false r n e = cc

module _ (call : AppCall) (func : Func) (flags : ℕ) (is : stack_of call ≡ Some (func, flags)) (h : PlainHandle) (none : ◌≡◌ {A = Option Answer} (stack_refusal h.pending func flags) None) where
  not_refused : refusal (Some (opened h)) call ≡ None
  not_refused = refusal_is call func flags is h ∙ none

  inside_not : stays_inside (Some (opened h)) call ≡ true → ⊥
  inside_not e = inside_false (refusal (Some (opened h)) call) (needs_outside call) not_refused (needs_is call func flags is) e

  pub world_not : leaves_world (Some (opened h)) call ≡ true → ⊥
  world_not e = inside_false (refusal (Some (opened h)) call) (touches_world call) not_refused (touches_is call func flags is) e

  memory_not : takes_no_memory (Some (opened h)) call ≡ true → ⊥
  memory_not e = memory_false (refusal (Some (opened h)) call) (is_free call) not_refused (free_is call (func, flags) is) e

-- what an outcome answers, and the number of records before it, by what it is
pub answer_of : (o : Outcome) (p : PlainOutcome) → plain_outcome o ≡ p → o.answer ≡ p.answer
answer_of o p e = ap (λ (x : PlainOutcome). x.answer) e

pub filed_of : (o : Outcome) (p : PlainOutcome) → plain_outcome o ≡ p → o.filed_from ≡ p.filed_from
filed_of o p e = ap (λ (x : PlainOutcome). x.filed_from) e

abbrev pub telling : List Message → List Visit → ℕ → Option Wait → Answer → PlainOutcome
telling said trail filed wait answer = record { said = said; trail = trail; filed_from = filed; wait = wait; missing = []; answer = answer }

-- what a transaction reported and returned, as in the outcome
abbrev pub IsToldOf : Outcome → ℕ → Code → PlainHandle → Type 0
IsToldOf o filed code h =
    plain_outcome o ≡ telling h.room.transaction.said h.room.transaction.trail filed h.waited (answers.Code code)

pub only_of : (o : Outcome) (n filed : ℕ) (answer : Answer) → plain_outcome o ≡ answers_only n answer → n ≡ filed
    → SaysOnly filed answer o
only_of o n filed answer plain same = plain ∙ ap (λ (k : ℕ). answers_only k answer) same

pub told_of : (o : Outcome) (said : List Message) (trail : List Visit) (n filed : ℕ) (wait : Option Wait) (code : Code) (h : PlainHandle)
    → plain_outcome o ≡ telling said trail n wait (answers.Code code) → n ≡ filed
    → said ≡ h.room.transaction.said → trail ≡ h.room.transaction.trail → wait ≡ h.waited → IsToldOf o filed code h
told_of o said trail n filed wait code h plain same said_is trail_is wait_is =
    plain
    ∙ ap (λ (k : ℕ). telling said trail k wait (answers.Code code)) same
    ∙ ap (λ (k : List Message). telling k trail filed wait (answers.Code code)) said_is
    ∙ ap (λ (k : List Visit). telling h.room.transaction.said k filed wait (answers.Code code)) trail_is
    ∙ ap (λ (k : Option Wait). telling h.room.transaction.said h.room.transaction.trail filed k (answers.Code code)) wait_is

module _ (players : List Player) (gives : (Code → ℕ → ℕ) → Type 0) (tells world_tells : Bool) (faults : ℕ) (call : AppCall) (func : Func) (flags : ℕ) (is : stack_of call ≡ Some (func, flags))
    (h : PlainHandle) (w : PlainWorld) where
  -- a refused call
  pub stack_refused : (o : Outcome) (refused : Answer)
      → ((note : Notes) (modules : ℕ) (list : PlainDataList) (ledger : PlainLedger) → list.gone ≡ [] → Grows note modules list ledger list ledger)
      → h ≡ all_told h → h.names ≡ names_of players → h.room.transaction.datums.gone ≡ []
      → ◌≡◌ {A = Option Answer} (stack_refusal h.pending func flags) (Some refused) → SaysOnly (filed_in w) refused o
      → CalledInSlot h.room.transaction.handle call (slot_seen players gives tells world_tells faults (opened h) w) (Ok o) (opened h) w
  stack_refused o refused grows told names gone none only =
      let steps : (number_of : Code → ℕ → ℕ) → SlotStepsAs (slot_step players number_of h.room.transaction.handle (opened h) w call) (plain_outcome o) (opened h) w =
      λ number_of.
      let c : SlotStepped = told_by (filed_in w) (answers.Code (stack_call players number_of func flags (all_told h) w).code) (stack_call players number_of func flags (all_told h) w) in
      let e : slot_step players number_of h.room.transaction.handle (opened h) w call ≡ answered (opened (all_told h)) w refused =
      step_is call func flags is players number_of h.room.transaction.handle h w ∙ refused_by (is_refused_for_flags func flags) (other_pending h.pending func) (opened (all_told h)) w c refused none in
      record {
        outcome_is = only ∙ sym (ap (λ (s : SlotStepped). s.outcome) e);
        slot_is = ap opened told ∙ sym (ap (λ (s : SlotStepped). s.slot) e);
        world_is = sym (ap (λ (s : SlotStepped). s.world) e);
      } in
      record {
        told = λ number_of given all. steps number_of;
        alone = λ number_of inside. steps number_of;
        answers = subst (λ (r : Option Answer). AnswersBy r call o.answer) (sym (refusal_is call func flags is h ∙ none)) (answer_of o _ only);
        traces = refused_untraced call func flags is h h (plain_outcome o) refused none;
        filed_from = filed_of o _ only;
        succeeds = λ free. refl;
        fails = tt;
        stops = tt;
        placed = record { handle = refl; started_with = names };
        spends = spends_is (notes_of players) (length players) call (func, flags) h h.room.transaction.datums h.room.transaction.datums w.process.ledger w.process.ledger is (grows (notes_of players) (length players) h.room.transaction.datums w.process.ledger gone);
        root = refl;
        caller = refl;
      }

  -- a call that was run, with the transaction after it, and that transaction with nothing left to report
  pub stack_ran : (o : Outcome) (code : Code) (next after : PlainHandle) (v : PlainWorld)
      → h ≡ all_told h → h.names ≡ names_of players
      → ◌≡◌ {A = Option Answer} (stack_refusal h.pending func flags) None
      → ((number_of : Code → ℕ → ℕ) → gives number_of → IsTrue (tells && world_tells) → CallsAs (stack_call players number_of func flags h w) code next v)
      → RunsSoundly (notes_of players) (length players) h next w.process v.process
      → after ≡ all_told next → IsToldOf o (filed_in w) code next → TracesIn call (opened h) (opened after) (plain_outcome o)
      → CalledInSlot h.room.transaction.handle call (slot_seen players gives tells world_tells faults (opened h) w) (Ok o) (opened after) v
  stack_ran o code next after v told names none calls sound emptied tells_of traces = record {
    told = λ number_of given all.
        let did = calls number_of given all in
        let c : Called = stack_call players number_of func flags h w in
        let e = called_as players number_of h.room.transaction.handle call func flags is h w none told in
        record {
          outcome_is = tells_of
              ∙ ap (λ (k : PlainHandle). (told_by (filed_in w) (answers.Code code) (record { code = code; handle = k; world = v })).outcome) did.handle_is
              ∙ ap (λ (a : Code). (told_by (filed_in w) (answers.Code a) c).outcome) did.code_is
              ∙ sym (ap (λ (s : SlotStepped). s.outcome) e);
          slot_is = ap opened (emptied ∙ ap all_told did.handle_is) ∙ sym (ap (λ (s : SlotStepped). s.slot) e);
          world_is = did.world_is ∙ sym (ap (λ (s : SlotStepped). s.world) e);
        };
    alone = λ number_of inside. absurd (inside_not call func flags is h none inside);
    answers = subst (λ (r : Option Answer). AnswersBy r call o.answer) (sym (not_refused call func flags is h none))
        (subst (CanAnswer call) (sym (answer_of o _ tells_of)) (code_can call func flags is code));
    traces = traces;
    filed_from = filed_of o _ tells_of;
    succeeds = λ free. refl;
    fails = tt;
    stops = tt;
    placed = subst (IsPlaced (names_of players) h.room.transaction.handle) (sym emptied) (record { handle = sound.goes.stays.handle; started_with = sound.names ∙ names });
    spends = subst (λ (k : PlainHandle). SpendsAt (notes_of players) (length players) (Some (opened h)) call h.room.transaction.datums w.process.ledger k.room.transaction.datums v.process.ledger) (sym emptied)
        (spends_is (notes_of players) (length players) call (func, flags) h h.room.transaction.datums next.room.transaction.datums w.process.ledger v.process.ledger is sound.goes.grows);
    root = sound.goes.stays.root;
    caller = sound.goes.stays.caller;
  }

  -- a call that ran out of memory
  pub stack_failed : (error : NoMemory) (next : PlainHandle) (v : PlainWorld)
      → h ≡ all_told h → h.names ≡ names_of players
      → ◌≡◌ {A = Option Answer} (stack_refusal h.pending func flags) None
      → FailsAs func h next → Stops func flags (around_of players (tells && world_tells) h next w v) → RunsSoundly (notes_of players) (length players) h next w.process v.process
      → CalledInSlot h.room.transaction.handle call (slot_seen players gives tells world_tells faults (opened h) w) (Err error) (opened next) v
  stack_failed error next v told names none fails stops sound = record {
    told = λ number_of given all. tt;
    alone = λ number_of inside. tt;
    answers = tt;
    traces = tt;
    filed_from = tt;
    succeeds = λ free. absurd (memory_not call func flags is h none free);
    fails = fails_is call func flags is tells h next (subst (λ (k : PlainHandle). FailsAs func k next) told fails);
    stops = stops_is call func flags is players (tells && world_tells) h next w v (subst (λ (k : PlainHandle). Stops func flags (around_of players (tells && world_tells) k next w v)) told stops);
    placed = record { handle = sound.goes.stays.handle; started_with = sound.names ∙ names };
    spends = spends_is (notes_of players) (length players) call (func, flags) h h.room.transaction.datums next.room.transaction.datums w.process.ledger v.process.ledger is sound.goes.grows;
    root = sound.goes.stays.root;
    caller = sound.goes.stays.caller;
  }
