-- What all passes of a call give and leave, from what each of them does, whatever the objects.
use Rattle.std.proofs.Common.{◌≡◌, List, [], Option, Some, None, true, false, is_some, IsTrue, refl, sym, ◌∙◌, ap, subst}
use Rattle.pam_base.specs.declared.code.Code.{Code}
use Rattle.pam_base.specs.declared.code.Code.TheVariants.{Success, Incomplete}
use Rattle.pam_base.specs.declared.call.Func.{Func}
use Rattle.pam_base.specs.declared.call.Func.TheVariants.{ChAuthTok}
use Rattle.frozen_chain.specs.Kept.{Answers}
use Rattle.dispatch_core.specs.AnswersSoFar.{past_of}
use Rattle.dispatch_core.specs.Calls as calls
use Rattle.dispatch_core.specs.Calls.{Asking, Held, answers_held, held, held_past, passed_by, went}
use Rattle.dispatch_core.specs.Pending.{pending_after}
use Rattle.dispatch_core.specs.service_load.specs.Stacks.{Stacks}
use Rattle.dispatch_core.specs.handler_chain.specs.Pass.{pass_after}
use Rattle.dispatch_core.specs.handler_chain.specs.Route.{KeptAnswers}
use Rattle.pam_handle.specs.Pass.{PassesTo, kept_answers}
use Rattle.pam_handle.specs.Passes.{authenticated_with, is_followed, is_second, kind_of, opened_with, stack_at, stack_type}
use Rattle.pam_handle.specs.Stopping.{first_kept}

false_true : false ≡ true → ⊥
false_true e = (cc)

same_went : {T : Type 0} (c d : Code) (f g : Held) (s t : T) → c ≡ d → f ≡ g → s ≡ t → went c f s ≡ went d g t
same_went {T} c d f g s t code new_held state = ap (λ (x : Code). went x f s) code ∙ ap (λ (x : Held). went d x s) new_held ∙ ap (λ (x : T). went d g x) state

-- what is held after the first pass of a call
held_is : {T : Type 0} (func : Func) (p : calls.Passed T) (h : Held)
    → held_past func None p h ≡ held (authenticated_with func p.kept h.authenticated) (opened_with func p.kept h.opened) (pending_after func None p.paused)
held_is func p h = refl

went_first : {T : Type 0} (func : Func) (p : calls.Passed T) (h : Held) (code : Code) (kept : Option KeptAnswers) (paused : Option (List Code)) (t : T) → PassesTo p code kept paused t
    → went p.code (held_past func None p h) p.state ≡ went code (held (authenticated_with func kept h.authenticated) (opened_with func kept h.opened) (pending_after func None paused)) t
went_first func p h code kept paused t e =
    same_went p.code code (held_past func None p h) (held (authenticated_with func kept h.authenticated) (opened_with func kept h.opened) (pending_after func None paused)) p.state t (sym e.code_is)
    (held_is func p h
    ∙ ap (λ (k : Option KeptAnswers). held (authenticated_with func k h.authenticated) (opened_with func k h.opened) (pending_after func None p.paused)) (sym e.kept_is)
    ∙ ap (λ (o : Option (List Code)). held (authenticated_with func kept h.authenticated) (opened_with func kept h.opened) (pending_after func None o)) (sym e.paused_is))
    (sym e.state_is)

-- a second pass follows only a first one that returned SUCCESS
pub followed : (func : Func) (code : Code) → is_followed func code ≡ true → (func ≡ ChAuthTok) × (code ≡ Success)
followed ChAuthTok Success e = (refl, refl)
followed ChAuthTok code e = absurd (false_true e)
followed func code e = absurd (false_true e)

success_incomplete : (code : Code) → code ≡ Success → code ≡ Incomplete → ⊥
success_incomplete code s i = (cc)

-- after it there are no codes to resume with
pub over : (func : Func) (code : Code) (paused : Option (List Code)) → is_followed func code ≡ true → (IsTrue (is_some paused) → code ≡ Incomplete) → paused ≡ None
over func code None e i = refl
over func code (Some past) e i = absurd (success_incomplete code (followed func code e).1 (i refl))

module _ {State : Type 0} (asking : Asking State) (stacks : Stacks) where
  -- the first pass of a call, by its function
  first_is : (func : Func) (past : List Code) (h : Held) (s : State)
      → calls.first_pass asking stacks func past h s
      ≡ passed_by (kind_of func (first_kept func h)) (first_kept func h)
      (pass_after (kind_of func (first_kept func h)) (answers_held (first_kept func h)) (asking func false) (stack_at stacks (stack_type func)) past s)
  first_is func past h s = refl

  pub first_passes : (func : Func) (past : List Code) (h : Held) (s t : State) (code : Code) (kept : Option KeptAnswers) (paused : Option (List Code))
      → PassesTo (passed_by (kind_of func (first_kept func h)) (first_kept func h)
      (pass_after (kind_of func (first_kept func h)) (answers_held (first_kept func h)) (asking func false) (stack_at stacks (stack_type func)) past s)) code kept paused t
      → PassesTo (calls.first_pass asking stacks func past h s) code kept paused t
  first_passes func past h s t code kept paused e = subst (λ (p : calls.Passed State). PassesTo p code kept paused t) (sym (first_is func past h s)) e

  -- what follows the first pass of a change of token
  checked_as : (h : Held) (p : calls.Passed State) (code : Code) (kept : Option KeptAnswers) (paused : Option (List Code)) (s : State) → PassesTo p code kept paused s
      → calls.after_check asking stacks p.code p.kept (held_past ChAuthTok None p h) p.state
      ≡ calls.after_check asking stacks code kept (held h.authenticated h.opened (pending_after ChAuthTok None paused)) s
  checked_as h p code kept paused s e =
      ap (λ (k : Code). calls.after_check asking stacks k p.kept (held_past ChAuthTok None p h) p.state) (sym e.code_is)
      ∙ ap (λ (k : Option KeptAnswers). calls.after_check asking stacks code k (held_past ChAuthTok None p h) p.state) (sym e.kept_is)
      ∙ ap (λ (o : Option (List Code)). calls.after_check asking stacks code kept (held h.authenticated h.opened (pending_after ChAuthTok None o)) p.state) (sym e.paused_is)
      ∙ ap (λ (t : State). calls.after_check asking stacks code kept (held h.authenticated h.opened (pending_after ChAuthTok None paused)) t) (sym e.state_is)

  past_other : (code : Code) (kept : Option KeptAnswers) (h : Held) (s : State) → is_followed ChAuthTok code ≡ false → calls.after_check asking stacks code kept h s ≡ went code h s
  past_other Success kept h s other = absurd (false_true (sym other))
  past_other code kept h s other = refl

  -- the only pass of a call
  pub goes_once : (func : Func) (past : List Code) (first : Answers) (h : Held) (s t : State) (code : Code) (kept : Option KeptAnswers) (paused : Option (List Code))
      → is_second func first ≡ false → is_followed func code ≡ false → PassesTo (calls.first_pass asking stacks func past h s) code kept paused t
      → calls.call_after asking stacks func past (kept_answers first) h s
      ≡ went code (held (authenticated_with func kept h.authenticated) (opened_with func kept h.opened) (pending_after func None paused)) t
  goes_once ChAuthTok past (Some cells) h s t code kept paused begins last e = absurd (false_true (sym begins))
  goes_once ChAuthTok past None h s t code kept paused begins last e =
      checked_as h (calls.first_pass asking stacks ChAuthTok past h s) code kept paused t e
      ∙ past_other code kept (held h.authenticated h.opened (pending_after ChAuthTok None paused)) t last
  goes_once func past first h s t code kept paused begins last e = went_first func (calls.first_pass asking stacks func past h s) h code kept paused t e

  went_second : (first : Option KeptAnswers) (past : List Code) (h : Held) (s t : State) (code : Code) (later : Option KeptAnswers) (paused : Option (List Code))
      → PassesTo (calls.second_pass asking stacks first past s) code later paused t
      → calls.update asking stacks first past h s ≡ went code (held h.authenticated h.opened (pending_after ChAuthTok later paused)) t
  went_second first past h s t code later paused e =
      let p : calls.Passed State = calls.second_pass asking stacks first past s in
      same_went p.code code (held h.authenticated h.opened (pending_after ChAuthTok first p.paused)) (held h.authenticated h.opened (pending_after ChAuthTok later paused)) p.state t (sym e.code_is)
      (ap (λ (k : Option KeptAnswers). held h.authenticated h.opened (pending_after ChAuthTok k p.paused)) (sym e.kept_is)
      ∙ ap (λ (o : Option (List Code)). held h.authenticated h.opened (pending_after ChAuthTok later o)) (sym e.paused_is))
      (sym e.state_is)

  -- a change of token that is resumed in its second pass
  pub goes_second : (func : Func) (past : List Code) (first : Answers) (h : Held) (s t : State) (code : Code) (later : Option KeptAnswers) (paused : Option (List Code))
      → is_second func first ≡ true → PassesTo (calls.second_pass asking stacks (kept_answers first) past s) code later paused t
      → calls.call_after asking stacks func past (kept_answers first) h s ≡ went code (held h.authenticated h.opened (pending_after func later paused)) t
  goes_second ChAuthTok past None h s t code later paused is e = absurd (false_true is)
  goes_second ChAuthTok past (Some cells) h s t code later paused is e = went_second (kept_answers (Some cells)) past h s t code later paused e
  goes_second func past first h s t code later paused is e = absurd (false_true is)

  -- a change of token with both passes
  change_twice : (past : List Code) (h : Held) (s t u : State) (code last : Code) (kept later : Option KeptAnswers) (paused new_held : Option (List Code))
      → code ≡ Success → paused ≡ None → PassesTo (calls.first_pass asking stacks ChAuthTok past h s) code kept paused t
      → PassesTo (calls.second_pass asking stacks kept (past_of paused) t) last later new_held u
      → calls.check asking stacks past h s ≡ went last (held h.authenticated h.opened (pending_after ChAuthTok later new_held)) u
  change_twice past h s t u code last kept later paused new_held success ended e f =
      checked_as h (calls.first_pass asking stacks ChAuthTok past h s) code kept paused t e
      ∙ ap (λ (k : Code). calls.after_check asking stacks k kept (held h.authenticated h.opened (pending_after ChAuthTok None paused)) t) success
      ∙ went_second kept [] (held h.authenticated h.opened (pending_after ChAuthTok None paused)) t u last later new_held
      (subst (λ (o : Option (List Code)). PassesTo (calls.second_pass asking stacks kept (past_of o) t) last later new_held u) ended f)

  pub goes_twice : (func : Func) (past : List Code) (first : Answers) (h : Held) (s t u : State) (code last : Code) (kept later : Option KeptAnswers) (paused new_held : Option (List Code))
      → is_second func first ≡ false → is_followed func code ≡ true → paused ≡ None → PassesTo (calls.first_pass asking stacks func past h s) code kept paused t
      → PassesTo (calls.second_pass asking stacks kept (past_of paused) t) last later new_held u
      → calls.call_after asking stacks func past (kept_answers first) h s ≡ went last (held h.authenticated h.opened (pending_after func later new_held)) u
  goes_twice ChAuthTok past (Some cells) h s t u code last kept later paused new_held begins follows ended e f = absurd (false_true (sym begins))
  goes_twice ChAuthTok past None h s t u code last kept later paused new_held begins follows ended e f = change_twice past h s t u code last kept later paused new_held (followed ChAuthTok code follows).1 ended e f
  goes_twice func past first h s t u code last kept later paused new_held begins follows ended e f = absurd (false_true follows)
