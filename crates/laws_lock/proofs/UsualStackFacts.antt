-- A run whose first three lines are those of the usual stack.
use Rattle.std.proofs.Common.{◌≡◌, ◌≢◌, ℕ, ◌+◌, Bool, true, false, if◌then◌else◌, List, [], ◌∷◌, ◌++◌, refl, sym, ap, ◌∙◌, subst}
use Rattle.pam_base.specs.declared.code.Code.{Code}
use Rattle.pam_base.specs.declared.code.Code.TheVariants as returns
use Rattle.control_words.specs.declared.control.Action.{Action}
use Rattle.control_words.specs.declared.control.Action.TheVariants as actions
use Rattle.control_words.specs.declared.nodes.Rule.{Rule}
use Rattle.control_words.specs.Control.{action_at}
use Rattle.control_words.specs.Stack.{Stack, line, count}
use Rattle.handler_chain.specs.declared.impression.Impression.{Impression}
use Rattle.handler_chain.specs.declared.impression.Impression.TheVariants.{Negative, Positive, Undefined}
use Rattle.handler_chain.specs.declared.opinion.Opinion.{Opinion}
use Rattle.handler_chain.specs.declared.pass_kind.PassKind.TheVariants as kinds
use Rattle.handler_chain.specs.Opinion.{acted, bad, opening, opinion_of, verdict, verdict_at}
use Rattle.handler_chain.specs.Walk.{Served, Walked, code_of, halted, next_of, new_or_overrun, onward, walk, walked}
use Rattle.handler_chain.specs.Pass.{Answered, Answering, PassState, Visit, is_incomplete, pass_after, pass_state, served_now, serving, visit}
use Rattle.handler_chain.specs.Route.{KeptAnswers}

-- a state to which bad codes led doesn't end with SUCCESS
negative_denies : (status : Code) → verdict_at Negative status ≢ returns.Success
negative_denies returns.Success e = absurd cc
negative_denies code e = absurd cc

-- a bad code leads there
bad_is : (impression : Impression) (status answer : Code) → (bad impression status answer).impression ≡ Negative
bad_is Negative status answer = refl
bad_is Undefined status returns.Ignore = refl
bad_is Undefined status answer = refl
bad_is Positive status returns.Ignore = refl
bad_is Positive status answer = refl

module _ (State : Type 0) (kept : KeptAnswers) (answering : Answering State) where
  -- a line that was run, given whether it left the run incomplete
  abbrev ran : Bool → ℕ → List Visit → Answered State → Served (PassState State)
  ran stopped at visits a = record {
    answer = a.answer;
    deciding = a.answer;
    stopped = stopped;
    state = pass_state [] (if stopped then visits else visits ++ visit at a.answer ∷ []) a.state;
  }

  -- what follows it, by its action
  abbrev rest_run : Action → Stack → ℕ → Opinion → Served (PassState State) → Walked (PassState State)
  rest_run action rest at o served =
      let new = acted kinds.Keep action served.answer served.deciding opening o in
      let last = new_or_overrun action (count rest) new in
      if served.stopped then halted o served.state
      else onward (next_of action (count rest) new) (λ n. walk kinds.Keep (serving kinds.Keep kept answering) n rest (at + 1) opening last served.state)
      (walked last served.state)

  step : (rule : Rule) (rest : Stack) (at : ℕ) (o : Opinion) (visits : List Visit) (s : State) (action : Action) (a : Answered State)
      → answering rule at s ≡ a → action_at rule.control a.answer ≡ action → is_incomplete a.answer ≡ false
      → walk kinds.Keep (serving kinds.Keep kept answering) 0 (line rule rest) at opening o (pass_state [] visits s)
      ≡ rest_run action rest at o (ran false at visits a)
  step rule rest at o visits s action a is acts whole =
      ap (λ (x : Answered State). rest_run (action_at rule.control x.answer) rest at o (served_now kinds.Keep kept at visits x)) is
      ∙ ap (λ (x : Action). rest_run x rest at o (served_now kinds.Keep kept at visits a)) acts
      ∙ ap (λ (b : Bool). rest_run action rest at o (ran b at visits a)) whole

  module _ (first second third : Rule) (rest : Stack) (s s1 s2 s3 : State) (refusal : Code) where
    pub record Ends (w : Walked (PassState State)) : Type 0 where
      pub denied : code_of w ≢ returns.Success
      pub state_is : w.state ≡ pass_state [] (visit 1 returns.Success ∷ visit 2 refusal ∷ visit 3 returns.Ignore ∷ []) s3

    pub three_lines : answering first 1 s ≡ record { answer = returns.Success; state = s1 } → answering second 2 s1 ≡ record { answer = refusal; state = s2 }
        → answering third 3 s2 ≡ record { answer = returns.Ignore; state = s3 }
        → action_at first.control returns.Success ≡ actions.Ok → action_at second.control refusal ≡ actions.Bad
        → action_at third.control returns.Ignore ≡ actions.Die → is_incomplete refusal ≡ false
        → Ends (pass_after kinds.Keep kept answering (line first (line second (line third rest))) [] s)
    three_lines one two three ok bads die whole =
        let good : Opinion = opinion_of Positive returns.Success in
        let denied : Opinion = bad Positive returns.Success refusal in
        let at_end : Opinion = bad denied.impression denied.status returns.Ignore in
        let all : pass_after kinds.Keep kept answering (line first (line second (line third rest))) [] s
        ≡ walked at_end (pass_state [] (visit 1 returns.Success ∷ visit 2 refusal ∷ visit 3 returns.Ignore ∷ []) s3) =
        step first (line second (line third rest)) 1 opening [] s actions.Ok (record { answer = returns.Success; state = s1 }) one ok refl
        ∙ step second (line third rest) 2 good (visit 1 returns.Success ∷ []) s1 actions.Bad (record { answer = refusal; state = s2 }) two bads whole
        ∙ step third rest 3 denied (visit 1 returns.Success ∷ visit 2 refusal ∷ []) s2 actions.Die (record { answer = returns.Ignore; state = s3 })
        three die refl in
        record {
          denied = λ e. negative_denies at_end.status
              (ap (λ (i : Impression). verdict_at i at_end.status) (sym (bad_is denied.impression denied.status returns.Ignore)) ∙ sym (ap code_of all) ∙ e);
          state_is = ap (λ (w : Walked (PassState State)). w.state) all;
        }
