-- A first line whose failure ends the stack (pam.conf(5), `requisite`; the statement is this
-- project's own).
use Rattle.std.specs.Prelude.{◌≡◌, true, false, [], ◌∷◌}
use Rattle.control_words.specs.declared.nodes.Rule.{Rule}
use Rattle.control_words.specs.Keyword.{requisite}
use Rattle.control_words.specs.Stack.{Stack, line}
use Rattle.handler_chain.specs.declared.pass_kind.PassKind.{PassKind}
use Rattle.handler_chain.specs.Route.{KeptAnswers}
use Rattle.handler_chain.specs.Walk.{Walked, code_of}
use Rattle.handler_chain.specs.Pass.{Answered, Answering, PassState, decides, is_incomplete, pass_after, visit}
use Rattle.laws_stack.specs.Success.{is_failure}

-- the code is that of the first line, no other line was run, and all is as that line left it
pub record EndsAtFirst {State : Type 0} (a : Answered State) (w : Walked (PassState State)) : Type
    0 where
  pub code_is : code_of w ≡ a.answer
  pub ran : w.state.visits ≡ visit 1 a.answer ∷ []
  pub state_is : w.state.state ≡ a.state

-- a `requisite` first line that failed ends the stack, if the code by which it acts is a failure,
-- too, and the line isn't incomplete
abbrev pub FailingFirstLineEnds : Type 0 → Type 0
FailingFirstLineEnds State =
    (kind : PassKind) (kept : KeptAnswers) (answering : Answering State) (rule : Rule)
    (rest : Stack) (s : State) →
    let a = answering rule 1 s in
    rule.control ≡ requisite → is_failure a.answer ≡ true →
    is_failure (decides kind kept 1 a.answer) ≡ true → is_incomplete a.answer ≡ false →
    EndsAtFirst a (pass_after kind kept answering (line rule rest) [] s)
