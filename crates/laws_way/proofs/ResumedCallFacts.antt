-- The calls that are resumed, by the lines of their earlier calls and those that they added to the trace.
use Rattle.std.proofs.Common.{◌≡◌, List, [], ◌++◌, Option, Some, None, refl, sym, ◌∙◌, ap, subst, append_assoc, append-nil}
use Rattle.pam_base.specs.declared.call.Func.TheVariants.{ChAuthTok}
use Rattle.pam_base.specs.declared.code.Code.{Code}
use Rattle.pam_base.specs.declared.code.Code.TheVariants as codes
use Rattle.handler_chain.specs.declared.pass_kind.PassKind.TheVariants as kinds
use Rattle.handler_chain.specs.Pass.{PassState, Visit, kept_in, pass_state}
use Rattle.handler_chain.specs.Retell.{Telling, telling}
use Rattle.handler_chain.specs.Route.{KeptAnswers}
use Rattle.handler_chain.specs.Walk.{Walked, code_of}
use Rattle.dispatch_core.specs.Calls.{Went, answers_held, change, goes, update}
use Rattle.dispatch_core.specs.Failing.{visits_in}
use Rattle.dispatch_core.specs.Pending.{first_in, past_in}
use Rattle.dispatch_core.specs.Trail.{seen_in}
use Rattle.pam_handle.specs.Passes.{kind_of}
use Rattle.pam_handle.specs.Trail.{as_traced}
use Rattle.stack_ways.specs.Laws.{ArePossible, granted}
use Rattle.stack_ways.proofs.SuccessStateFacts.{by_code}
use Rattle.laws_way.specs.Cached.{CachedBy, GoesAgain}
use Rattle.laws_way.specs.Calls.{GrantedOf, cached_for, pass_of, stack_of_call}
use Rattle.laws_way.specs.Resumed.{LeftInUpdateByTrace, ResumedCallsGrantedBy, ResumedChangesGrantedBy, ResumedUpdatesGrantedBy, WithEarlier}
use Rattle.laws_way.specs.Token.{ByBothPasses, check_run, update_run}
use Rattle.laws_way.proofs.CallCodeFacts.{calls_granted_by, one_pass_is}
use Rattle.laws_way.proofs.TokenChangeFacts.{caches, is_update, left_checked, succeeded, token_changed, token_updated}
use Rattle.laws_way.proofs.TracedRunFacts.{Moves, lines_of, run_moves, runs_told}
use Rattle.laws_way.proofs.CallTraceFacts.{all_run, first_possible, told_is}

-- a run that took all lines of the trace
took_all : (past : List Code) (t : Telling) (p : PassState Telling) (added : List Visit) (Holds : List Visit → Type 0) → Moves (pass_state past [] t) p
    → lines_of t.left ≡ added → p.state ≡ telling [] → Holds p.visits → WithEarlier past added Holds
took_all past t p added Holds m whole left holds =
    let news_are : m.news ≡ added =
    sym (append-nil m.news) ∙ sym (ap (λ (u : Telling). m.news ++ lines_of u.left) left) ∙ sym m.told ∙ whole in
    record {
      early = m.early;
      left = p.past;
      resumed = m.past;
      holds = subst Holds (m.visits ∙ ap (λ (vs : List Visit). m.early ++ vs) news_are) holds;
    }

pub resumed_calls : ResumedCallsGrantedBy
resumed_calls possible counts ways stacks func h new_held before later other none all call =
    let t : Telling = telling (seen_in call.more ++ []) in
    let w : Walked (PassState Telling) = pass_of as_traced stacks func h t in
    let leads = call.leads [] in
    let is = one_pass_is as_traced stacks func h t other in
    let succeeds : (goes as_traced stacks func h t).code ≡ codes.Success = ap (λ (g : Went Telling). g.code) leads in
    let left_is : w.state.state ≡ telling [] = sym is.1 ∙ ap (λ (g : Went Telling). g.state) leads in
    took_all (past_in h.pending) t w.state (visits_in call.more)
    (λ (vs : List Visit). GrantedOf possible counts (stack_of_call func stacks) ways (answers_held (cached_for func h)) vs
    (kind_of func (cached_for func h)))
    (run_moves (kind_of func (cached_for func h)) (answers_held (cached_for func h)) (stack_of_call func stacks) (past_in h.pending) t
    (by_code w.stopped w.opinion (sym is.0 ∙ succeeds)).0)
    (told_is call.more) left_is
    (calls_granted_by Telling possible counts ways as_traced stacks func h t none all succeeds)

-- the lines of a first pass, and those of the trace that it left
first_ran : (past : List Code) (t : Telling) (p : PassState Telling) (added : List Visit) (m : Moves (pass_state past [] t) p) → lines_of t.left ≡ added
    → m.early ++ added ≡ p.visits ++ lines_of p.state.left
first_ran past t p added m whole =
    ap (λ (vs : List Visit). m.early ++ vs) (sym whole ∙ m.told) ∙ sym (append_assoc m.early m.news (lines_of p.state.left))
    ∙ ap (λ (vs : List Visit). vs ++ lines_of p.state.left) (sym m.visits)

pub resumed_changes : ResumedChangesGrantedBy
resumed_changes possible counts ways stacks h new_held before later none all call =
    let t : Telling = telling (seen_in call.more ++ []) in
    let first : Walked (PassState Telling) = check_run as_traced stacks (past_in h.pending) t in
    let kept : KeptAnswers = kept_in first.state.visits in
    let second : Walked (PassState Telling) = update_run as_traced stacks kept [] first.state.state in
    let leads = call.leads [] in
    let succeeds : (goes as_traced stacks ChAuthTok h t).code ≡ codes.Success = ap (λ (g : Went Telling). g.code) leads in
    let checked : code_of first ≡ codes.Success = succeeded as_traced stacks h t none succeeds in
    let updates = is_update as_traced stacks h t none checked in
    let updated : code_of second ≡ codes.Success = sym (ap (λ (g : Went Telling). g.code) updates) ∙ succeeds in
    let left_is : second.state.state ≡ telling [] = sym (ap (λ (g : Went Telling). g.state) updates) ∙ ap (λ (g : Went Telling). g.state) leads in
    let m : Moves (pass_state (past_in h.pending) [] t) first.state =
    run_moves kinds.Keep (answers_held None) stacks.password (past_in h.pending) t (by_code first.stopped first.opinion checked).0 in
    let two : second.state.visits ≡ lines_of first.state.state.left =
    all_run second.state.visits second.state.state (lines_of first.state.state.left)
    (runs_told kinds.Follow kept stacks.password first.state.state.left first.state.state refl (by_code second.stopped second.opinion updated).0) left_is in
    let split : m.early ++ visits_in call.more ≡ first.state.visits ++ second.state.visits =
    first_ran (past_in h.pending) t first.state (visits_in call.more) m (told_is call.more)
    ∙ ap (λ (vs : List Visit). first.state.visits ++ vs) (sym two) in
    record {
      early = m.early;
      left = first.state.past;
      resumed = m.past;
      holds = λ are.
          let both : ByBothPasses counts stacks.password ways first second =
          token_changed Telling possible counts ways as_traced stacks h t none all
          (first_possible possible first.state.visits second.state.visits (subst (ArePossible possible) split are)) succeeds in
          record { first = first.state.visits; second = second.state.visits; ran_is = split; said_yes = both.said_yes; goes_again = both.goes_again };
    }

pub left_by_trace : LeftInUpdateByTrace
left_by_trace possible stacks h new_held before later code kept none left call =
    let t : Telling = telling (seen_in call.more ++ []) in
    let first : Walked (PassState Telling) = check_run as_traced stacks (past_in h.pending) t in
    let leads = call.leads [] in
    let both = left_checked as_traced stacks h t kept none (ap (λ (g : Went Telling). first_in g.held.pending) leads ∙ left) in
    let m : Moves (pass_state (past_in h.pending) [] t) first.state =
    run_moves kinds.Keep (answers_held None) stacks.password (past_in h.pending) t (by_code first.stopped first.opinion both.0).0 in
    let split : m.early ++ visits_in call.more ≡ first.state.visits ++ lines_of first.state.state.left =
    first_ran (past_in h.pending) t first.state (visits_in call.more) m (told_is call.more) in
    record {
      early = m.early;
      left = first.state.past;
      resumed = m.past;
      holds = λ are. record {
        first = first.state.visits;
        later = lines_of first.state.state.left;
        ran_is = split;
        by = subst (CachedBy possible stacks.password first.state.visits granted) both.1
            (caches as_traced stacks h t none possible
            (first_possible possible first.state.visits (lines_of first.state.state.left) (subst (ArePossible possible) split are)) both.0);
      };
    }

pub resumed_updates : ResumedUpdatesGrantedBy
resumed_updates possible counts ways stacks first kept h new_held before later is all cached call =
    let t : Telling = telling (seen_in call.more ++ []) in
    let second : Walked (PassState Telling) = update_run as_traced stacks kept (past_in h.pending) t in
    let leads = call.leads [] in
    let succeeds : (goes as_traced stacks ChAuthTok h t).code ≡ codes.Success = ap (λ (g : Went Telling). g.code) leads in
    let updates : goes as_traced stacks ChAuthTok h t ≡ update as_traced stacks (Some kept) (past_in h.pending) h t =
    ap (λ (held : Option KeptAnswers). change as_traced stacks (past_in h.pending) held h t) is in
    let updated : code_of second ≡ codes.Success = sym (ap (λ (g : Went Telling). g.code) updates) ∙ succeeds in
    let left_is : second.state.state ≡ telling [] = sym (ap (λ (g : Went Telling). g.state) updates) ∙ ap (λ (g : Went Telling). g.state) leads in
    took_all (past_in h.pending) t second.state (visits_in call.more) (λ (vs : List Visit). GoesAgain counts stacks.password ways kept first vs granted)
    (run_moves kinds.Follow kept stacks.password (past_in h.pending) t (by_code second.stopped second.opinion updated).0)
    (told_is call.more) left_is
    (token_updated Telling possible counts ways as_traced stacks first kept h t is all cached succeeds)
