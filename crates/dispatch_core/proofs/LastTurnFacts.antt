-- The result of a walk over all lines, by its last turn.
use Rattle.std.proofs.Common.{◌≡◌, true, Some, None, is_some, List, refl, sym, ◌∙◌, ap, subst}
use Rattle.pam_base.specs.declared.code.Code.{Code}
use Rattle.frozen_chain.specs.Kept.{Answers}
use Rattle.control_words.specs.Stack.{Stack}
use Rattle.handler_chain.specs.declared.opinion.Opinion.{Opinion}
use Rattle.handler_chain.specs.declared.pass_kind.PassKind.{PassKind}
use Rattle.handler_chain.specs.Opinion.{verdict}
use Rattle.handler_chain.specs.Pass.{PassState, Visit, pass_state, answers_of}
use Rattle.handler_chain.specs.Walk.{Serving, Walked, walked, halted}
use Rattle.dispatch_core.specs.declared.walker.Walker.{Walker}
use Rattle.dispatch_core.specs.AnswersSoFar.{AnswersView}
use Rattle.dispatch_core.specs.Index.{walk_on}
use Rattle.dispatch_core.specs.Passes.{Keeps, WalksAs}

module _ {State : Type 0} (w : Walked (PassState State)) (opinion : Opinion) (past : List Code) (visits : List Visit) (state : State) (kept : Answers) (given : AnswersView)
    (taken : given.taken ≡ answers_of visits) (keeps : is_some kept ≡ true → Keeps kept visits) where
  pub walks_off : halted opinion (pass_state past visits state) ≡ w → WalksAs w None kept given state
  walks_off is = subst (λ (x : Walked (PassState State)). WalksAs x None kept given state) is (record { end_is = refl; kept_is = keeps; taken_is = taken; state_is = refl })

  pub walks_to : (code : Code) → code ≡ verdict opinion → walked opinion (pass_state past visits state) ≡ w → WalksAs w (Some code) kept given state
  walks_to code decided is =
      subst (λ (x : Walked (PassState State)). WalksAs x (Some code) kept given state) is (record { end_is = ap (λ (c : Code). Some c) decided; kept_is = keeps; taken_is = taken; state_is = refl })

-- one more turn, over a chain whose stack has not changed
pub turn_more : {State : Type 0} (kind : PassKind) (serve : Serving State) (now start : Stack) (old : Walker) (s : State) (all : Walked State) (past_end : Stack → Walked State)
    → now ≡ start → walk_on kind serve now old s ≡ past_end now → walk_on kind serve start old s ≡ all → past_end start ≡ all
turn_more kind serve now start old s all past_end same turn so_far =
    ap past_end (sym same) ∙ sym turn ∙ ap (λ (stack : Stack). walk_on kind serve stack old s) same ∙ so_far
