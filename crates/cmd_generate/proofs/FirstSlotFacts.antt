-- The first slot, after each call.
use Rattle.std.proofs.Common.{◌≡◌, ℕ, zero, suc, Bool, true, false, ◌&&◌, List, [], ◌∷◌, Option, Some, None, Result, Ok, Err, slice_get}
use Rattle.std.proofs.Common.{inl, inr, refl, sym, ap, subst, ◌∙◌}
use Rattle.std.specs.Result.{IsErrAnd}
use Rattle.pam_base.specs.declared.call.AppCall.{AppCall}
use Rattle.pam_base.specs.declared.call.AppCall.TheVariants as calls
use Rattle.pam_base.specs.declared.call.Step.{Step}
use Rattle.pam_base.specs.declared.fault.Refuse.{Refuse}
use Rattle.pam_base.specs.declared.fault.Refuse.TheVariants.{NoMemory, Named}
use Rattle.pam_base.specs.Code.{number_of}
use Rattle.cmd_run.specs.conv_port.specs.Conv.{ConvState}
use Rattle.service_load.specs.declared.load_fault.LoadFault.{LoadFault}
use Rattle.cmd_run.specs.pam_room.specs.State.{PlainWorld}
use Rattle.cmd_run.specs.pam_handle.specs.Handle.{PlainHandle}
use Rattle.cmd_run.specs.pam_library.specs.AnyWorld.{stays_inside, takes_no_memory}
use Rattle.cmd_run.specs.pam_library.specs.Outcome.{PlainOutcome}
use Rattle.cmd_run.specs.pam_library.specs.Slots.{NoneIsOpen, PlainSlot, closed, opened, is_open, is_open_at, slot_at}
use Rattle.cmd_run.specs.pam_library.specs.SlotStep.{opened_by}
use Rattle.cmd_run.specs.pam_library.specs.Step.{StepsAs, stepped}
use Rattle.cmd_run.specs.State.{RunState, Setting, state_of}
use Rattle.cmd_run.specs.Step.{CallFails}
use Rattle.cmd_generate.specs.declared.login.Login.{Login}
use Rattle.cmd_generate.specs.Login.{Attempt, Authenticates, ComesTo, LoginStops, Starts, Tries, authenticate_call, after_start, called}
use Rattle.cmd_generate.specs.Login.{end_status, ended, logged_in, login_of, refusal_in, start_call, state_in, step_of}

-- ---- slots that are closed

closed_at : (slots : List PlainSlot) → NoneIsOpen slots → (i : ℕ) → is_open_at (slice_get slots i) ≡ false
closed_at [] none i = refl
closed_at (slot ∷ slots) none zero = none.0
closed_at (slot ∷ slots) none (suc i) = closed_at slots none.1 i

all_closed : (slots : List PlainSlot) → ((i : ℕ) → is_open_at (slice_get slots i) ≡ false) → NoneIsOpen slots
all_closed [] each = tt
all_closed (slot ∷ slots) each = (each 0, all_closed slots (λ i. each (suc i)))

by_place : (old new : List PlainSlot) → NoneIsOpen old → ((number : ℕ) → (number ≡ 1 → ⊥) → slot_at new number ≡ slot_at old number)
    → is_open_at (slot_at new 1) ≡ false
    → (i : ℕ) → is_open_at (slice_get new i) ≡ false
by_place old new none others first zero = first
by_place old new none others first (suc i) = ap is_open_at (others (suc (suc i)) (λ e. cc)) ∙ closed_at old none (suc i)

-- if no other slot was changed, and the first is closed
pub none_open : (old new : List PlainSlot) → NoneIsOpen old → ((number : ℕ) → (number ≡ 1 → ⊥) → slot_at new number ≡ slot_at old number)
    → is_open_at (slot_at new 1) ≡ false → NoneIsOpen new
none_open old new none others first = all_closed new (by_place old new none others first)

pub first_closed : (slots : List PlainSlot) → NoneIsOpen slots → is_open_at (slot_at slots 1) ≡ false
first_closed slots none = closed_at slots none 0

-- ---- the end

module _ (setting : Setting) (status : ℕ) where
  end_closes : (slots : List PlainSlot) (w : PlainWorld) → is_open_at (slot_at (called setting (state_of slots w) (calls.End status)).slots 1) ≡ false
  unfolding called stepped
  end_closes [] w = refl
  end_closes (closed conv ∷ slots) w = refl
  end_closes (opened h ∷ slots) w = refl

  pub ended_is_closed : (s t : RunState) → t ≡ ended setting status s → is_open_at (slot_at t.slots 1) ≡ false
  ended_is_closed s t e = rw e (end_closes s.slots s.world)

  closed_stays : (slots : List PlainSlot) (w : PlainWorld) → is_open_at (slot_at slots 1) ≡ false → ended setting status (state_of slots w) ≡ state_of slots w
  unfolding called stepped
  closed_stays [] w none = refl
  closed_stays (closed conv ∷ slots) w none = refl
  closed_stays (opened h ∷ slots) w none = absurd cc

-- ---- a refused start

by_answer : (names : List (List ℕ)) (conv : ConvState) (filed : ℕ) (w : PlainWorld) (r : Result PlainHandle LoadFault) (fault : LoadFault)
    → refusal_in (opened_by names conv filed w r).outcome.answer ≡ Some fault → is_open (opened_by names conv filed w r).slot ≡ false
by_answer names conv filed w (Ok h) fault e = absurd cc
by_answer names conv filed w (Err f) fault e = refl

module _ (setting : Setting) where
  refused_is_closed : (slots : List PlainSlot) (w : PlainWorld) (fault : LoadFault) → is_open_at (slot_at slots 1) ≡ false
      → refusal_in (called setting (state_of slots w) start_call).outcome.answer ≡ Some fault
      → is_open_at (slot_at (called setting (state_of slots w) start_call).slots 1) ≡ false
  unfolding called stepped
  refused_is_closed [] w fault none e = refl
  refused_is_closed (closed conv ∷ slots) w fault none e = by_answer _ conv _ _ _ fault e
  refused_is_closed (opened h ∷ slots) w fault none e = absurd cc

  -- an attempt, and then the end
  pub came : (result : Result Login (Refuse LoadFault)) (s t u : RunState) → is_open_at (slot_at s.slots 1) ≡ false → Tries result setting s t
      → u ≡ ended setting (number_of (end_status result)) t
      → ComesTo result (logged_in setting s) (LoginStops setting s) u
  came (Ok login) s t u none tries e = (
    ap (λ (o : Option LoadFault). (after_start setting o (state_in (called setting s start_call))).result) tries.0 ∙ ap Ok (sym tries.1),
    e ∙ ap (ended setting 0) tries.2 ∙ sym (ap (λ (o : Option LoadFault). (after_start setting o (state_in (called setting s start_call))).state) tries.0),
  )
  came (Err (Named fault)) s t u none tries e =
      let b = state_in (called setting s start_call) in (
        ap (λ (o : Option LoadFault). (after_start setting o b).result) tries.0,
        e ∙ ap (ended setting 0) tries.1 ∙ closed_stays setting 0 b.slots b.world (refused_is_closed s.slots s.world fault none tries.0)
            ∙ sym (ap (λ (o : Option LoadFault). (after_start setting o b).state) tries.0),
      )
  came (Err NoMemory) s t u none tries e = (t, tries, e)

-- ---- a step

module _ (setting : Setting) (s : RunState) (call : AppCall) (outcome : PlainOutcome) (slots : List PlainSlot) (w : PlainWorld)
    (steps : StepsAs (stepped setting.players setting.delay s.slots s.world (step_of call)) outcome slots w) where
  pub state_is : state_of slots w ≡ state_in (called setting s call)
  unfolding called
  state_is = rw (steps.slots_is, steps.world_is) refl

  pub outcome_is : outcome ≡ (called setting s call).outcome
  unfolding called
  outcome_is = steps.outcome_is

  pub answer_is : refusal_in outcome.answer ≡ refusal_in (called setting s call).outcome.answer
  answer_is = ap (λ (o : PlainOutcome). refusal_in o.answer) outcome_is

  pub login_is : login_of outcome ≡ login_of (called setting s call).outcome
  login_is = ap login_of outcome_is

-- an end allocates nothing, and uses nothing outside
pub end_is_free : (status : ℕ) (slot : Option PlainSlot) → takes_no_memory slot (calls.End status) ≡ true
end_is_free status None = refl
end_is_free status (Some (closed conv)) = refl
end_is_free status (Some (opened h)) = refl

pub end_stays_inside : (status : ℕ) (slot : Option PlainSlot) → stays_inside slot (calls.End status) ≡ true
end_stays_inside status None = refl
end_stays_inside status (Some (closed conv)) = refl
end_stays_inside status (Some (opened h)) = refl

-- what is modelled stays so
pub both_tell : (a b x y : Bool) → a ≡ x → b ≡ y → (x && y) ≡ true → (a && b) ≡ true
both_tell a b x y e f told = rw (e, f) told

-- ---- the result of a step, and a start with an authentication

module _ (setting : Setting) (s : RunState) (outcome : PlainOutcome) (slots : List PlainSlot) (w : PlainWorld) where
  module _ (steps : StepsAs (stepped setting.players setting.delay s.slots s.world (step_of start_call)) outcome slots w) where
    pub starts_refused : (fault : LoadFault) → Some fault ≡ refusal_in outcome.answer → Starts {T = Unit {0}} (Err (Named fault)) setting s (state_of slots w)
    starts_refused fault e = (sym (answer_is setting s start_call outcome slots w steps) ∙ sym e, state_is setting s start_call outcome slots w steps)

    pub starts_done : (done : Unit {0}) → None ≡ refusal_in outcome.answer → Starts {T = Unit {0}} (Ok done) setting s (state_of slots w)
    starts_done done e = (sym (answer_is setting s start_call outcome slots w steps) ∙ sym e, state_is setting s start_call outcome slots w steps)

  pub authenticates : (steps : StepsAs (stepped setting.players setting.delay s.slots s.world (step_of authenticate_call)) outcome slots w) → (login : Login)
      → login ≡ login_of outcome
      → Authenticates (Ok login) setting s (state_of slots w)
  authenticates steps login e = (e ∙ login_is setting s authenticate_call outcome slots w steps, state_is setting s authenticate_call outcome slots w steps)

-- an allocation failed before a start, and before a login
pub start_unbegun : (setting : Setting) (s : RunState) (result : Result (Unit {0}) (Refuse LoadFault))
    → IsErrAnd result (λ (refuse : Refuse LoadFault). refuse ≡ NoMemory)
    → Starts {T = Unit {0}} result setting s s
start_unbegun setting s (Ok done) none = absurd none
start_unbegun setting s (Err refuse) none = subst (λ (x : Refuse LoadFault). Starts {T = Unit {0}} (Err x) setting s s) (sym none) (inl refl)

pub login_unbegun : (a : Attempt) (Stops : RunState → Type 0) (s : RunState) (result : Result Login (Refuse LoadFault))
    → IsErrAnd result (λ (refuse : Refuse LoadFault). refuse ≡ NoMemory)
    → Stops s → ComesTo result a Stops s
login_unbegun a Stops s (Ok login) none stops = absurd none
login_unbegun a Stops s (Err refuse) none stops = subst (λ (x : Refuse LoadFault). ComesTo (Err x) a Stops s) (sym none) stops

module _ (setting : Setting) (s t : RunState) where
  pub tries_not : (refuse : Refuse LoadFault) → Starts {T = Unit {0}} (Err refuse) setting s t → Tries (Err refuse) setting s t
  tries_not (Named fault) starts = starts
  tries_not NoMemory starts = inl starts

  pub authenticate_failed : (step : Step) → step ≡ step_of authenticate_call → CallFails setting step s t → CallFails setting (step_of authenticate_call) s t
  authenticate_failed step is fails = subst (λ (x : Step). CallFails setting x s t) is fails

  pub start_failed : (step : Step) → step ≡ step_of start_call → CallFails setting step s t → Starts {T = Unit {0}} (Err NoMemory) setting s t
  start_failed step is fails = inr (subst (λ (x : Step). CallFails setting x s t) is fails)

  pub tries_stopped : (u : RunState) (done : Unit {0}) → Starts {T = Unit {0}} (Ok done) setting s t
      → CallFails setting (step_of authenticate_call) t u → Tries (Err NoMemory) setting s u
  tries_stopped u done starts fails = inr (starts.0, subst (λ (m : RunState). CallFails setting (step_of authenticate_call) m u) starts.1 fails)

  pub tries_both : (u : RunState) (done : Unit {0}) (login : Login) → Starts {T = Unit {0}} (Ok done) setting s t
      → Authenticates (Ok login) setting t u → Tries (Ok login) setting s u
  tries_both u done login starts comes = (
    starts.0,
    comes.0 ∙ ap (λ (m : RunState). login_of (called setting m authenticate_call).outcome) starts.1,
    comes.1
        ∙ ap (λ (m : RunState). state_in (called setting m authenticate_call)) starts.1,
  )
