-- What a stack call returns, by the lines that it added to the trace, from what its passes do.
use Rattle.std.proofs.Common.{◌≡◌, List, [], ◌∷◌, ◌++◌, append_assoc, Option, Some, None, Result, Ok, Err, IfOk, true, false, refl, sym, ◌∙◌, ap}
use Rattle.pam_base.specs.declared.code.Code.{Code}
use Rattle.pam_base.specs.declared.call.Func.{Func}
use Rattle.pam_base.specs.declared.call.Func.TheVariants.{ChAuthTok}
use Rattle.pam_base.specs.declared.fault.NoMemory.{NoMemory}
use Rattle.frozen_chain.specs.Kept.{Answers}
use Rattle.dispatch_core.specs.AnswersSoFar.{past_of}
use Rattle.dispatch_core.specs.Calls as calls
use Rattle.dispatch_core.specs.Calls.{Asking, Held, Went, answers_held, held, passed_by, went}
use Rattle.dispatch_core.specs.Pending.{Pending, first_in, past_in, pending_after}
use Rattle.dispatch_core.specs.Trail.{ByTrail, seen_in, seen_of}
use Rattle.dispatch_core.specs.control_words.specs.Stack.{Stack}
use Rattle.dispatch_core.specs.pam_room.specs.declared.visits.Visit.{Visit}
use Rattle.dispatch_core.specs.service_load.specs.Stacks.{Stacks}
use Rattle.dispatch_core.specs.handler_chain.specs.declared.pass_kind.PassKind.{PassKind}
use Rattle.dispatch_core.specs.handler_chain.specs.declared.pass_kind.PassKind.TheVariants.{Follow}
use Rattle.dispatch_core.specs.handler_chain.specs.Retell.{RecordedLine, Telling, telling}
use Rattle.dispatch_core.specs.handler_chain.specs.Route.{KeptAnswers}
use Rattle.pam_handle.specs.Handle.{PlainHandle}
use Rattle.pam_handle.specs.Pass.{PassesTo, kept_answers}
use Rattle.pam_handle.specs.Passes.{authenticated_with, is_followed, is_second, kind_of, opened_with, stack_at, stack_type}
use Rattle.pam_handle.specs.StackCalls.{held_in}
use Rattle.pam_handle.specs.Stopping.{first_kept}
use Rattle.pam_handle.specs.Trail.{CallsByTrail, as_traced}
use Rattle.pam_handle.proofs.AllPassesFacts.{first_passes, goes_once, goes_second, goes_twice}

-- a pass by the lines that it added to the trace
abbrev pub PassesByTrail : PassKind → Option KeptAnswers → Stack → List Code → List Visit → List Visit → Code → Option KeptAnswers → Option (List Code) → Type 0
PassesByTrail kind kept stack past before after code later paused =
    ByTrail kind (answers_held kept) stack past before after (λ w told. PassesTo (passed_by kind kept w) code later paused told)

-- the first pass of a call
abbrev pub FirstByTrail : Func → Stacks → List Code → Held → List Visit → List Visit → Code → Option KeptAnswers → Option (List Code) → Type 0
FirstByTrail func stacks past h before after code later paused =
    PassesByTrail (kind_of func (first_kept func h)) (first_kept func h) (stack_at stacks (stack_type func)) past before after code later paused

pub trail_once : (stacks : Stacks) (func : Func) (past : List Code) (first : Answers) (h : Held) (before after : List Visit) (code : Code) (kept : Option KeptAnswers) (paused : Option (List Code))
    → is_second func first ≡ false → is_followed func code ≡ false → FirstByTrail func stacks past h before after code kept paused
    → CallsByTrail (λ s. calls.call_after as_traced stacks func past (kept_answers first) h s) before after code
    (held (authenticated_with func kept h.authenticated) (opened_with func kept h.opened) (pending_after func None paused))
trail_once stacks func past first h before after code kept paused begins last b = record {
  more = b.more;
  trail = b.trail;
  leads = λ rest.
      let s : Telling = telling (seen_in b.more ++ rest) in
      goes_once as_traced stacks func past first h s (telling rest) code kept paused begins last (first_passes as_traced stacks func past h s (telling rest) code kept paused (b.goes rest));
}

pub trail_second : (result : Result Code NoMemory) (stacks : Stacks) (func : Func) (past : List Code) (first : Answers) (h : Held) (before after : List Visit) (later : Option KeptAnswers) (paused : Option (List Code))
    → is_second func first ≡ true → IfOk result (λ code. PassesByTrail Follow (kept_answers first) stacks.password past before after code later paused)
    → IfOk result (λ code. CallsByTrail (λ s. calls.call_after as_traced stacks func past (kept_answers first) h s) before after code (held h.authenticated h.opened (pending_after func later paused)))
trail_second (Err none) stacks func past first h before after later paused is b = tt
trail_second (Ok code) stacks func past first h before after later paused is b = record {
  more = b.more;
  trail = b.trail;
  leads = λ rest. goes_second as_traced stacks func past first h (telling (seen_in b.more ++ rest)) (telling rest) code later paused is (b.goes rest);
}

seen_more : (vs ws : List Visit) → seen_in (vs ++ ws) ≡ seen_in vs ++ seen_in ws
seen_more [] ws = refl
seen_more (v ∷ vs) ws = ap (λ (xs : List RecordedLine). seen_of v ∷ xs) (seen_more vs ws)

pub trail_twice : (result : Result Code NoMemory) (stacks : Stacks) (func : Func) (past : List Code) (first : Answers) (h : Held) (before middle after : List Visit) (code : Code) (kept later : Option KeptAnswers) (paused new_held : Option (List Code))
    → is_second func first ≡ false → is_followed func code ≡ true → paused ≡ None → FirstByTrail func stacks past h before middle code kept paused
    → IfOk result (λ last. PassesByTrail Follow kept stacks.password (past_of paused) middle after last later new_held)
    → IfOk result (λ last. CallsByTrail (λ s. calls.call_after as_traced stacks func past (kept_answers first) h s) before after last (held h.authenticated h.opened (pending_after func later new_held)))
trail_twice (Err none) stacks func past first h before middle after code kept later paused new_held begins follows ended b c = tt
trail_twice (Ok last) stacks func past first h before middle after code kept later paused new_held begins follows ended b c = record {
  more = b.more ++ c.more;
  trail = c.trail ∙ ap (λ (vs : List Visit). vs ++ c.more) b.trail ∙ append_assoc before b.more c.more;
  leads = λ rest.
      let s : Telling = telling (seen_in b.more ++ (seen_in c.more ++ rest)) in
      let t : Telling = telling (seen_in c.more ++ rest) in
      ap (λ (xs : List RecordedLine). calls.call_after as_traced stacks func past (kept_answers first) h (telling xs)) (ap (λ (xs : List RecordedLine). xs ++ rest) (seen_more b.more c.more) ∙ append_assoc (seen_in b.more) (seen_in c.more) rest)
      ∙ goes_twice as_traced stacks func past first h s t (telling rest) code last kept later paused new_held begins follows ended
      (first_passes as_traced stacks func past h s t code kept paused (b.goes (seen_in c.more ++ rest))) (c.goes rest);
}

-- ---- the whole call

-- once the codes of a pending call are taken out, that it was pending doesn't matter any more
aside : {State : Type 0} (asking : Asking State) (stacks : Stacks) (func : Func) (past : List Code) (first : Option KeptAnswers) (authenticated opened : Option KeptAnswers) (p q : Option Pending) (s : State)
    → calls.call_after asking stacks func past first (held authenticated opened p) s ≡ calls.call_after asking stacks func past first (held authenticated opened q) s
aside asking stacks ChAuthTok past None authenticated opened p q s = refl
aside asking stacks ChAuthTok past (Some first) authenticated opened p q s = refl
aside asking stacks func past first authenticated opened p q s = refl

pub goes_after : {State : Type 0} (asking : Asking State) (stacks : Stacks) (func : Func) (given : List Code) (first : Option KeptAnswers) (q : Option Pending) (h : PlainHandle) (s : State)
    → given ≡ past_in h.pending → first ≡ first_in h.pending
    → calls.goes asking stacks func (held_in h) s ≡ calls.call_after asking stacks func given first (held h.authenticated h.opened q) s
goes_after asking stacks func given first q h s g f =
    aside asking stacks func (past_in h.pending) (first_in h.pending) h.authenticated h.opened h.pending q s
    ∙ ap (λ (past : List Code). calls.call_after asking stacks func past (first_in h.pending) (held h.authenticated h.opened q) s) (sym g)
    ∙ ap (λ (kept : Option KeptAnswers). calls.call_after asking stacks func given kept (held h.authenticated h.opened q) s) (sym f)

pub called_by_trail : (result : Result Code NoMemory) (func : Func) (h new : PlainHandle) (given : List Code) (first : Option KeptAnswers) (q : Option Pending) (before after : List Visit) (new_held : Held)
    → given ≡ past_in h.pending → first ≡ first_in h.pending → before ≡ h.room.transaction.trail → new.room.transaction.trail ≡ after → held_in new ≡ new_held
    → IfOk result (λ code. CallsByTrail (λ s. calls.call_after as_traced h.stacks func given first (held h.authenticated h.opened q) s) before after code new_held)
    → IfOk result (λ code. CallsByTrail (λ s. calls.goes as_traced h.stacks func (held_in h) s) h.room.transaction.trail new.room.transaction.trail code (held_in new))
called_by_trail (Err none) func h new given first q before after new_held g f start end is b = tt
called_by_trail (Ok code) func h new given first q before after new_held g f start end is b = record {
  more = b.more;
  trail = end ∙ b.trail ∙ ap (λ (vs : List Visit). vs ++ b.more) start;
  leads = λ rest.
      goes_after as_traced h.stacks func given first q h (telling (seen_in b.more ++ rest)) g f
      ∙ b.leads rest
      ∙ ap (λ (k : Held). went code k (telling rest)) (sym is);
}
