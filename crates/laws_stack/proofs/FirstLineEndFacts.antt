-- A walk that ends at its first line.
use Rattle.std.proofs.Common.{◌≡◌, ℕ, ◌+◌, Bool, true, false, true≢false, if◌then◌else◌, List, [], ◌∷◌, refl, sym, ◌∙◌, ap}
use Rattle.pam_base.specs.declared.code.Code.{Code}
use Rattle.pam_base.specs.declared.code.Code.TheVariants as codes
use Rattle.control_words.specs.declared.control.Action.{Action}
use Rattle.control_words.specs.declared.control.Action.TheVariants as actions
use Rattle.control_words.specs.Control.{action_at}
use Rattle.control_words.specs.Keyword.{requisite}
use Rattle.control_words.specs.Stack.{count}
use Rattle.handler_chain.specs.declared.opinion.Opinion.{Opinion}
use Rattle.handler_chain.specs.declared.impression.Impression.TheVariants.{Undefined}
use Rattle.handler_chain.specs.declared.pass_kind.PassKind.{PassKind}
use Rattle.handler_chain.specs.Opinion.{acted, bad, opening, verdict}
use Rattle.handler_chain.specs.Walk.{Walked, code_of, halted, next_of, new_or_overrun, onward, walk, walked}
use Rattle.handler_chain.specs.Pass.{PassState, decides, is_incomplete, served_now, serving, visit}
use Rattle.laws_stack.specs.First.{FailingFirstLineEnds}
use Rattle.laws_stack.specs.Success.{is_failure}

dies : (code : Code) → is_failure code ≡ true → action_at requisite code ≡ actions.Die
dies codes.Success e = absurd (true≢false (sym e))
dies codes.NewAuthtokReqd e = absurd (true≢false (sym e))
dies codes.Ignore e = absurd (true≢false (sym e))
dies code e = refl

own_code : (answer : Code) → is_failure answer ≡ true → verdict (bad Undefined codes.PermDenied answer) ≡ answer
own_code codes.Success e = absurd (true≢false (sym e))
own_code codes.NewAuthtokReqd e = absurd (true≢false (sym e))
own_code codes.Ignore e = absurd (true≢false (sym e))
own_code answer e = refl

ran_now : (b : Bool) (answer : Code) → b ≡ false → (if b then [] else visit 1 answer ∷ []) ≡ visit 1 answer ∷ []
ran_now true answer e = absurd (true≢false e)
ran_now false answer e = refl

module _ (State : Type 0) (kind : PassKind) where
  record Ends (answer : Code) (st : PassState State) (w : Walked (PassState State)) : Type 0 where
    code_is : code_of w ≡ answer
    state_is : w.state ≡ st

  ends : (stopped : Bool) (action : Action) (answer deciding : Code) (left : ℕ) (st : PassState State) (f : Opinion → ℕ → Walked (PassState State))
      → stopped ≡ false → action ≡ actions.Die → is_failure answer ≡ true
      → Ends answer st (if stopped then halted opening st
      else onward (next_of action left (acted kind action answer deciding opening opening))
      (f (new_or_overrun action left (acted kind action answer deciding opening opening)))
      (walked (new_or_overrun action left (acted kind action answer deciding opening opening)) st))
  ends true action answer deciding left st f goes is failed = absurd (true≢false goes)
  ends false actions.Die answer deciding left st f goes is failed = record { code_is = own_code answer failed; state_is = refl }
  ends false actions.Ignore answer deciding left st f goes is failed = absurd cc
  ends false actions.Ok answer deciding left st f goes is failed = absurd cc
  ends false actions.Done answer deciding left st f goes is failed = absurd cc
  ends false actions.Bad answer deciding left st f goes is failed = absurd cc
  ends false actions.Reset answer deciding left st f goes is failed = absurd cc
  ends false (actions.Jump n) answer deciding left st f goes is failed = absurd cc

pub failing_first_line_ends : (State : Type 0) → FailingFirstLineEnds State
failing_first_line_ends State kind kept answering rule rest s control failed decided whole =
    let a = answering rule 1 s in
    let st = (served_now kind kept 1 [] a).state in
    let is : action_at rule.control (decides kind kept 1 a.answer) ≡ actions.Die =
    ap (λ (c : List Action). action_at c (decides kind kept 1 a.answer)) control ∙ dies (decides kind kept 1 a.answer) decided in
    let e = ends State kind (is_incomplete a.answer) (action_at rule.control (decides kind kept 1 a.answer)) a.answer (decides kind kept 1 a.answer)
    (count rest) st
    (λ last n. walk kind (serving kind kept answering) n rest (1 + 1) opening last st) whole is failed in
    record {
      code_is = e.code_is;
      ran = ap (λ (x : PassState State). x.visits) e.state_is ∙ ran_now (is_incomplete a.answer) a.answer whole;
      state_is = ap (λ (x : PassState State). x.state) e.state_is;
    }
