-- A code that counts and isn't SUCCESS (pam.conf(5), pam_sm_setcred(3); the statement is this
-- project's own).
use Rattle.std.specs.Prelude.{◌≡◌, ◌≢◌, Bool, true, false, List, ◌∷◌, ◌++◌}
use Rattle.pam_base.specs.declared.code.Code.{Code}
use Rattle.pam_base.specs.declared.code.Code.TheVariants as codes
use Rattle.control_words.specs.Stack.{Stack}
use Rattle.handler_chain.specs.declared.pass_kind.PassKind.{PassKind}
use Rattle.handler_chain.specs.Route.{KeptAnswers}
use Rattle.handler_chain.specs.Walk.{code_of}
use Rattle.handler_chain.specs.Pass.{Answering, Visit, pass_after}
use Rattle.laws_stack.specs.Deeds.{action_of, grants}
use Rattle.laws_stack.specs.Success.{NoneResets}

-- whether a code is neither SUCCESS nor IGNORE
abbrev pub is_other : Code → Bool
is_other codes.Success = false
is_other codes.Ignore = false
is_other code = true

-- Whatever kind of run it is: after a line that returned another code than SUCCESS and IGNORE, and
-- whose action lets codes count, the code isn't SUCCESS, unless a later line resets. In a run by
-- cached codes the action is that of the cached code: so in chauthtok's second pass a line that
-- succeeded in the first one has to succeed again.
abbrev pub CountedFailureDenies : Type 0 → Type 0
CountedFailureDenies State =
    (kind : PassKind) (kept : KeptAnswers) (answering : Answering State) (stack : Stack)
    (past : List Code) (s : State) →
    let w = pass_after kind kept answering stack past s in
    (before after : List Visit) (v : Visit) → w.state.visits ≡ before ++ v ∷ after →
    grants kind (action_of kind kept stack v) ≡ true → is_other v.answer ≡ true →
    NoneResets (action_of kind kept stack) after → code_of w ≢ codes.Success
