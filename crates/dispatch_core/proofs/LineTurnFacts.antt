-- One turn: the return code of a line, and where the walk is after it.
use Rattle.std.proofs.Common.{◌≡◌, ◌+◌, ◌<◌, Option, Some, None, is_none, List, [], ◌∷◌, ◌++◌, refl, subst}
use Rattle.pam_base.specs.declared.code.Code.{Code}
use Rattle.control_words.specs.Stack.{Stack, lines_in}
use Rattle.handler_chain.specs.FlatLines.{FlatLine, rule_at}
use Rattle.handler_chain.specs.declared.pass_kind.PassKind.{PassKind}
use Rattle.handler_chain.specs.Pass.{PassState, Visit, visit, pass_state}
use Rattle.handler_chain.specs.Walk.{Serving, ServedAs, halted}
use Rattle.dispatch_core.specs.declared.walker.Walker.{Walker}
use Rattle.dispatch_core.specs.Index.{walk_on, GoesOn, IsLineAt}
use Rattle.dispatch_core.specs.Passes.{answer_in, visits_with}
use Rattle.dispatch_core.proofs.IndexTurnFacts.{halted_there, gone_on}

module _ {State : Type 0} (kind : PassKind) (serve : Serving (PassState State)) (stack : Stack) (w : Walker) (s : PassState State) (past : List Code) (visits : List Visit) (state : State) where
  -- the line gave this code, or left the pass incomplete
  abbrev pub Gave : Option Code → Code → Type 0
  Gave answer deciding = ServedAs (serve (rule_at stack w.at) (w.at + 1) s) (answer_in answer) deciding (is_none answer) (pass_state past (visits_with visits (w.at + 1) answer) state)

  pub put_off : (answer : Option Code) (deciding : Code) → w.at < lines_in stack → Gave answer deciding → answer ≡ None
      → walk_on kind serve stack w s ≡ halted w.opinion (pass_state past visits state)
  put_off answer deciding within gave none =
      let here : Gave None deciding = subst (λ (o : Option Code). Gave o deciding) none gave in
      halted_there kind serve stack w s (pass_state past visits state) _ deciding _ within here refl

  pub taken : (answer : Option Code) (given deciding : Code) (new : Walker) → w.at < lines_in stack → Gave answer deciding → answer ≡ Some given
      → ((l : FlatLine) → IsLineAt stack w.at l → GoesOn kind l given deciding w new)
      → walk_on kind serve stack w s ≡ walk_on kind serve stack new (pass_state past (visits ++ visit (w.at + 1) given ∷ []) state)
  taken answer given deciding new within gave is goes =
      let here : Gave (Some given) deciding = subst (λ (o : Option Code). Gave o deciding) is gave in
      gone_on kind serve stack w new s (pass_state past (visits ++ visit (w.at + 1) given ∷ []) state) given deciding _ within here refl goes
