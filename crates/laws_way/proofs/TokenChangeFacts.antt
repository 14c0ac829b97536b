-- Both passes of a change of token.
use Rattle.std.proofs.Common.{◌≡◌, ◌≢◌, true, false, List, [], Option, Some, None, refl, sym, ◌∙◌, ap, subst}
use Rattle.pam_base.specs.declared.call.Func.TheVariants.{ChAuthTok}
use Rattle.pam_base.specs.declared.code.Code.{Code}
use Rattle.pam_base.specs.declared.code.Code.TheVariants as codes
use Rattle.handler_chain.specs.declared.opinion.Opinion.{Opinion}
use Rattle.handler_chain.specs.Pass.{PassState, kept_in}
use Rattle.handler_chain.specs.Route.{KeptAnswers}
use Rattle.handler_chain.specs.Walk.{Walked, code_of}
use Rattle.service_load.specs.Stacks.{Stacks}
use Rattle.dispatch_core.specs.Calls.{Asking, Held, Passed, Went, answers_held, after_check, change, first_pass, goes, held_past, second_pass, update, went}
use Rattle.dispatch_core.specs.Pending.{first_in, past_in, pending_after}
use Rattle.stack_ways.specs.Laws.{ArePossible, granted}
use Rattle.stack_ways.specs.MayEnd.{CodesOf, StackMayEnd}
use Rattle.stack_ways.proofs.SuccessStateFacts.{by_code}
use Rattle.stack_ways.proofs.Realised.{ends_as_it_may, granted_by}
use Rattle.laws_way.specs.Cached.{CachedBy}
use Rattle.laws_way.specs.Token.{FailedCheckEnds, LeftInUpdate, TokenChangedByWays, TokenUpdatedByWays, check_run, update_run}
use Rattle.laws_way.proofs.Again.{cached_granted_by}

module _ {State : Type 0} (asking : Asking State) (stacks : Stacks) where
  -- ---- what follows the first pass

  check_succeeded : (code : Code) (kept : Option KeptAnswers) (h : Held) (s : State) → (after_check asking stacks code kept h s).code ≡ codes.Success
      → code ≡ codes.Success
  check_succeeded codes.Success kept h s e = refl
  check_succeeded code kept h s e = e

  check_failed : (code : Code) (kept : Option KeptAnswers) (h : Held) (s : State) → code ≢ codes.Success
      → after_check asking stacks code kept h s ≡ went code h s
  check_failed codes.Success kept h s other = absurd (other refl)
  check_failed code kept h s other = refl

  first_left : (first : Option KeptAnswers) (paused : Option (List Code)) (kept : KeptAnswers) → first_in (pending_after ChAuthTok first paused) ≡ Some kept
      → first ≡ Some kept
  first_left first None kept e = absurd cc
  first_left first (Some past) kept e = e

  left_in_update : (code : Code) (cached : Option KeptAnswers) (p : Passed State) (h : Held) (s : State) (kept : KeptAnswers)
      → first_in (after_check asking stacks code cached (held_past ChAuthTok None p h) s).held.pending ≡ Some kept
      → (code ≡ codes.Success) × (cached ≡ Some kept)
  left_in_update codes.Success cached p h s kept e = (refl, first_left cached (second_pass asking stacks cached [] s).paused kept e)
  left_in_update code cached p h s kept e = let nothing : None ≡ Some kept = first_left None p.paused kept e in absurd cc

  -- ---- a call that begins, or is resumed in its first pass

  module _ (h : Held) (s : State) (none : first_in h.pending ≡ None) where
    abbrev first : Walked (PassState State)
    first = check_run asking stacks (past_in h.pending) s

    abbrev second : Walked (PassState State)
    second = update_run asking stacks (kept_in first.state.visits) [] first.state.state

    abbrev there : Held
    there = held_past ChAuthTok None (first_pass asking stacks ChAuthTok (past_in h.pending) h s) h

    is_check : goes asking stacks ChAuthTok h s ≡ after_check asking stacks (code_of first) (Some (kept_in first.state.visits)) there first.state.state
    is_check = ap (λ (cached : Option KeptAnswers). change asking stacks (past_in h.pending) cached h s) none

    pub succeeded : (goes asking stacks ChAuthTok h s).code ≡ codes.Success → code_of first ≡ codes.Success
    succeeded e = check_succeeded (code_of first) (Some (kept_in first.state.visits)) there first.state.state
        (sym (ap (λ (g : Went State). g.code) is_check) ∙ e)

    pub is_update : code_of first ≡ codes.Success
        → goes asking stacks ChAuthTok h s ≡ update asking stacks (Some (kept_in first.state.visits)) [] there first.state.state
    is_update checked = is_check ∙ ap (λ (c : Code). after_check asking stacks c (Some (kept_in first.state.visits)) there first.state.state) checked

    pub caches : (possible : CodesOf) → ArePossible possible first.state.visits → code_of first ≡ codes.Success
        → CachedBy possible stacks.password first.state.visits granted (kept_in first.state.visits)
    caches possible are checked =
        let ends = by_code first.stopped first.opinion checked in
        record {
          ends = subst (λ (o : Opinion). StackMayEnd possible stacks.password first.state.visits o) ends.1
              (ends_as_it_may State possible (answers_held None) (asking ChAuthTok false) stacks.password (past_in h.pending) s ends.0 are);
          kept_is = refl;
        }

-- ---- the laws

pub token_changed : (State : Type 0) → TokenChangedByWays State
token_changed State possible counts ways asking stacks h s none all = λ are succeeds.
    let first : Walked (PassState State) = check_run asking stacks (past_in h.pending) s in
    let kept : KeptAnswers = kept_in first.state.visits in
    let second : Walked (PassState State) = update_run asking stacks kept [] first.state.state in
    let checked : code_of first ≡ codes.Success = succeeded asking stacks h s none succeeds in
    let updated : code_of second ≡ codes.Success = sym (ap (λ (g : Went State). g.code) (is_update asking stacks h s none checked)) ∙ succeeds in
    record {
      checked = checked;
      said_yes = granted_by State possible counts stacks.password ways (answers_held None) (asking ChAuthTok false) (past_in h.pending) s all are checked;
      updated = updated;
      goes_again = cached_granted_by State possible counts stacks.password ways first.state.visits granted kept (asking ChAuthTok true) [] first.state.state all
          (caches asking stacks h s none possible are checked) updated;
    }

pub failed_check_ends : (State : Type 0) → FailedCheckEnds State
failed_check_ends State asking stacks h s none = λ fails.
    let first : Walked (PassState State) = check_run asking stacks (past_in h.pending) s in
    let is = is_check asking stacks h s none
    ∙ check_failed asking stacks (code_of first) (Some (kept_in first.state.visits)) (there asking stacks h s none) first.state.state fails in
    record { code_is = ap (λ (g : Went State). g.code) is; state_is = ap (λ (g : Went State). g.state) is }

-- if it is left incomplete in its second pass, the first one returned SUCCESS, and its codes are kept
pub left_checked : {State : Type 0} (asking : Asking State) (stacks : Stacks) (h : Held) (s : State) (kept : KeptAnswers) → first_in h.pending ≡ None
    → first_in (goes asking stacks ChAuthTok h s).held.pending ≡ Some kept →
    let first = check_run asking stacks (past_in h.pending) s in
    (code_of first ≡ codes.Success) × (kept_in first.state.visits ≡ kept)
left_checked {State} asking stacks h s kept none left =
    let first : Walked (PassState State) = check_run asking stacks (past_in h.pending) s in
    let both = left_in_update asking stacks (code_of first) (Some (kept_in first.state.visits)) (first_pass asking stacks ChAuthTok (past_in h.pending) h s) h
    first.state.state kept (sym (ap (λ (g : Went State). first_in g.held.pending) (is_check asking stacks h s none)) ∙ left) in
    (both.0, let is = both.1 in cc)

pub left_in : (State : Type 0) → LeftInUpdate State
left_in State possible asking stacks h s kept none = λ are left.
    let first : Walked (PassState State) = check_run asking stacks (past_in h.pending) s in
    let both = left_checked asking stacks h s kept none left in
    subst (CachedBy possible stacks.password first.state.visits granted) both.1 (caches asking stacks h s none possible are both.0)

pub token_updated : (State : Type 0) → TokenUpdatedByWays State
token_updated State possible counts ways asking stacks ran kept h s is all cached = λ succeeds.
    let updates : goes asking stacks ChAuthTok h s ≡ update asking stacks (Some kept) (past_in h.pending) h s =
    ap (λ (cached : Option KeptAnswers). change asking stacks (past_in h.pending) cached h s) is in
    cached_granted_by State possible counts stacks.password ways ran granted kept (asking ChAuthTok true) (past_in h.pending) s all cached
    (sym (ap (λ (g : Went State). g.code) updates) ∙ succeeds)
