-- The line that a pass runs: by its code, and by the state that it left.
use Rattle.std.proofs.Common.{◌≡◌, ℕ, ◌+◌, Bool, true, false, if◌then◌else◌, List, [], ◌∷◌, ◌++◌, Option, Some, None, is_none, refl, sym, ◌∙◌, ap, subst}
use Rattle.pam_base.specs.declared.code.Code.{Code}
use Rattle.pam_base.specs.declared.code.Code.TheVariants as codes
use Rattle.control_words.specs.Stack.{Stack}
use Rattle.handler_chain.specs.FlatLines.{rule_at}
use Rattle.pam_room.specs.Module.{Player}
use Rattle.pam_room.specs.State.{State}
use Rattle.handler_chain.specs.declared.pass_kind.PassKind.{PassKind}
use Rattle.handler_chain.specs.Pass.{Answered, AnswersAs, Visit, decides, is_incomplete, pass_state, served_now, serving, visit}
use Rattle.handler_chain.specs.Route.{KeptAnswers}
use Rattle.handler_chain.specs.Walk.{ServedAs}
use Rattle.dispatch_core.specs.declared.request.PassRequest.{PassRequest}
use Rattle.dispatch_core.specs.Lines.{answers_by}
use Rattle.dispatch_core.specs.Passes.{answer_in, visits_with}

abbrev left_as : (code : Code) (t : State) → Answered State
left_as code t = record { answer = code; state = t }

-- GivesLine, of the modules and the states alone
abbrev pub Gives : List Player → PassRequest → Stack → ℕ → Option Code → List Code → List Code → State → State → Type 0
Gives players request stack i answer past left s t =
    (kind : PassKind) (kept : KeptAnswers) (visits : List Visit)
    → ServedAs (serving kind kept (answers_by players request.func request.flags) (rule_at stack i) (i + 1) (pass_state past visits s))
    (answer_in answer) (decides kind kept (i + 1) (answer_in answer)) (is_none answer) (pass_state left (visits_with visits (i + 1) answer) t)

module _ (players : List Player) (request : PassRequest) (stack : Stack) (i : ℕ) (code : Code) (past left : List Code) (s t : State) (none : past ≡ []) (nothing : left ≡ [])
    (asked : AnswersAs (answers_by players request.func request.flags (rule_at stack i) (i + 1) s) code t) where
  same : answers_by players request.func request.flags (rule_at stack i) (i + 1) s ≡ left_as code t
  same =
      let b : Answered State = answers_by players request.func request.flags (rule_at stack i) (i + 1) s in
      ap (λ (c : Code). left_as c b.state) (sym asked.answer_is) ∙ ap (λ (u : State). left_as code u) (sym asked.state_is)

  -- it left the pass incomplete
  pub gives_off : code ≡ codes.Incomplete → Gives players request stack i None past left s t
  gives_off is = λ kind kept visits.
      subst (λ (cs : List Code). ServedAs (serving kind kept (answers_by players request.func request.flags) (rule_at stack i) (i + 1) (pass_state cs visits s)) codes.Incomplete (decides kind kept (i + 1) codes.Incomplete) true (pass_state left visits t)) (sym none)
      (subst (λ (a : Answered State). ServedAs (served_now kind kept (i + 1) visits a) codes.Incomplete (decides kind kept (i + 1) codes.Incomplete) true (pass_state left visits t)) (sym (same ∙ ap (λ (c : Code). left_as c t) is))
      (record { answer_is = refl; deciding_is = refl; stopped_is = refl; state_is = ap (λ (cs : List Code). pass_state cs visits t) nothing }))

  -- it didn't
  pub gives_on : is_incomplete code ≡ false → Gives players request stack i (Some code) past left s t
  gives_on on = λ kind kept visits.
      subst (λ (cs : List Code). ServedAs (serving kind kept (answers_by players request.func request.flags) (rule_at stack i) (i + 1) (pass_state cs visits s)) code (decides kind kept (i + 1) code) false (pass_state left (visits ++ visit (i + 1) code ∷ []) t)) (sym none)
      (subst (λ (a : Answered State). ServedAs (served_now kind kept (i + 1) visits a) code (decides kind kept (i + 1) code) false (pass_state left (visits ++ visit (i + 1) code ∷ []) t)) (sym same)
      (record {
        answer_is = refl;
        deciding_is = refl;
        stopped_is = sym on;
        state_is = ap (λ (cs : List Code). pass_state cs (visits ++ visit (i + 1) code ∷ []) t) nothing ∙ ap (λ (b : Bool). pass_state [] (if b then visits else visits ++ visit (i + 1) code ∷ []) t) (sym on);
      }))
