-- The wait after an authentication.
use Rattle.std.proofs.Common.{◌≡◌, ℕ, List, Option, Some, None, Result, Ok, Err, IfOk, OnErr, Bool, true, false, ◌&&◌, IsTrue, refl, sym, ◌∙◌, ap, subst}
use Rattle.std.specs.Prelude.{IfNone}
use Rattle.dispatch_core.specs.fail_delay.specs.Delay.{asked_delay}
use Rattle.dispatch_core.specs.fail_delay.specs.Wait.{wait_of}
use Rattle.dispatch_core.specs.pam_outside.specs.Time.{NapState}
use Rattle.dispatch_core.specs.Pending.{Pending, pending_after}
use Rattle.dispatch_core.specs.pam_room.specs.State.{PlainWorld}
use Rattle.dispatch_core.specs.handler_chain.specs.Route.{KeptAnswers}
use Rattle.pam_base.specs.declared.code.Code.{Code}
use Rattle.pam_base.specs.declared.call.Func.{Func}
use Rattle.pam_base.specs.declared.call.Func.TheVariants.{Authenticate}
use Rattle.pam_base.specs.declared.fault.NoMemory.{NoMemory}
use Rattle.pam_handle.specs.declared.wait.Wait.{Wait}
use Rattle.pam_handle.specs.AnyWorld.{Waits, WaitsFor, WaitsOnlyAtEnd}
use Rattle.pam_handle.specs.Call.{CallsAs, code_waited, random_taken_for, request_forgotten, rested_by, tokens_cleared, waited_by}
use Rattle.pam_handle.specs.Handle.{PlainHandle}
use Rattle.pam_handle.specs.StackCalls.{ended}

false_true : false ≡ true → ⊥
false_true e = (cc)

-- if each of two objects is modelled, both are
pub tells_beside : (a b c : Bool) → c ≡ b → IsTrue (a && b) → IsTrue c
tells_beside true b c e t = subst (λ (x : Bool). IsTrue x) (sym e) t
tells_beside false b c e t = absurd (false_true t)

-- after a pass that has ended
pub waited_after : (number : Code → ℕ → ℕ) (code : Code) (h : PlainHandle) (w last : PlainWorld) (longest : ℕ) (waited : Option Wait)
    → longest ≡ h.room.transaction.delay
    → (waited ≡ waited_by code (asked_delay longest w.clock.word) (wait_of h.delay_on number code (asked_delay longest w.clock.word)) h.waited)
    × (last ≡ rested_by (wait_of h.delay_on number code (asked_delay longest w.clock.word)) (random_taken_for longest w))
    → CallsAs (ended number Authenticate code h w) code (record (request_forgotten (tokens_cleared h)) { waited = waited }) last
waited_after number code h w last longest waited l e = record {
  code_is = refl;
  handle_is = ap (λ (o : Option Wait). record (request_forgotten (tokens_cleared h)) { waited = o }) (e.0
      ∙ ap (λ (n : ℕ). waited_by code (asked_delay n w.clock.word) (wait_of h.delay_on number code (asked_delay n w.clock.word)) h.waited) l);
  world_is = e.1 ∙ ap (λ (n : ℕ). rested_by (wait_of h.delay_on number code (asked_delay n w.clock.word)) (random_taken_for n w)) l;
}

-- a call that hasn't ended, or that doesn't wait, leaves the record of the last wait
pub not_waited : (ended : Option Code) (on : Bool) (old new : Option Wait) (tells : Bool) (before after : NapState) → WaitsOnlyAtEnd ended on old new tells before after → IfNone ended (new ≡ old)
not_waited None on old new tells before after e = e
not_waited (Some code) on old new tells before after e = tt

-- what holds for two equal objects holds for their contents
pub none_plain : {A B : Type 0} (f : A → B) (ended : Option Code) (x y : A) → IfNone ended (x ≡ y) → IfNone ended (f x ≡ f y)
none_plain f None x y e = ap f e
none_plain f (Some code) x y e = tt

some_none : (p : Pending) → ◌≡◌ {A = Option Pending} (Some p) None → ⊥
some_none p e = (cc)

-- a call that isn't pending any more has waited; its passes didn't sleep
pub waited_at_end : {Nap : Type 0} (holds : Nap → NapState) (tells : Nap → Bool) (nap mid : Nap) (after : NapState) (result : Result Code NoMemory) (func : Func) (first : Option KeptAnswers) (paused : Option (List Code)) (ended : Option Code) (h new : PlainHandle) (waited : Option Wait)
    → func ≡ Authenticate → mid ≡ nap → new.pending ≡ pending_after func first paused → new.waited ≡ waited → ended ≡ code_waited func paused result
    → WaitsOnlyAtEnd ended h.delay_on h.waited waited (tells mid) (holds mid) after → IfOk result (λ code. new.pending ≡ None → Waits code h new (tells nap) (holds nap) after)
waited_at_end {Nap} holds tells nap mid after (Ok code) Authenticate first None ended h new waited is same n u e w = λ _.
    subst (λ (o : Option Wait). WaitsFor code h.delay_on h.waited o (tells nap) (holds nap) after) (sym u)
    (subst (λ (k : Nap). WaitsFor code h.delay_on h.waited waited (tells k) (holds k) after) same (rw e at w))
waited_at_end holds tells nap mid after (Ok code) func first (Some past) ended h new waited is same n u e w = λ none. absurd (some_none _ (sym n ∙ none))
waited_at_end holds tells nap mid after (Ok code) func first None ended h new waited is same n u e w = absurd (cc)
waited_at_end holds tells nap mid after (Err none) func first paused ended h new waited is same n u e w = tt

pub waits_for_none : (func : Func) (paused : Option (List Code)) (none : NoMemory) → code_waited func paused (Err none) ≡ None
waits_for_none Authenticate None none = refl
waits_for_none Authenticate (Some past) none = refl
waits_for_none func paused none = refl

-- if memory runs out, there is no sleep after passes that didn't sleep
pub not_rested : {A : Type 0} (result : Result Code NoMemory) (func : Func) (paused : Option (List Code)) (ended : Option Code) (x y z : A)
    → ended ≡ code_waited func paused result → y ≡ x → IfNone ended (z ≡ y) → OnErr result (z ≡ x)
not_rested (Ok code) func paused ended x y z is same rest = tt
not_rested {A} (Err none) func paused ended x y z is same rest =
    let left : z ≡ y = subst (λ (o : Option Code). IfNone o (z ≡ y)) (is ∙ waits_for_none func paused none) rest in
    left ∙ same
