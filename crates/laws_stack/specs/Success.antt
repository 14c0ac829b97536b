-- What a SUCCESS of a stack says of its lines (pam.conf(5), pam_authenticate(3); the statements are
-- this project's own).
use Rattle.std.specs.Prelude.{◌≡◌, ◌≢◌, ◌⊎◌, Bool, true, false, List, ◌∷◌, ◌++◌}
use Rattle.std.specs.List.{list_any}
use Rattle.pam_base.specs.declared.code.Code.{Code}
use Rattle.pam_base.specs.declared.code.Code.TheVariants as codes
use Rattle.control_words.specs.declared.control.Action.{Action}
use Rattle.control_words.specs.Keyword.{required, requisite}
use Rattle.control_words.specs.Stack.{Stack}
use Rattle.handler_chain.specs.declared.pass_kind.PassKind.{PassKind}
use Rattle.handler_chain.specs.Route.{KeptAnswers}
use Rattle.handler_chain.specs.Walk.{code_of}
use Rattle.handler_chain.specs.Pass.{Answering, Visit, pass_after}
use Rattle.laws_stack.specs.Deeds.{Granted, action_of, control_of, deciding_of, denies, resets}

-- whatever kind of run it is, whatever codes are cached, whatever lines return: the code is SUCCESS
-- only if a line that was run returned SUCCESS, and its control let that count
abbrev pub SuccessNeedsALine : Type 0 → Type 0
SuccessNeedsALine State =
    (kind : PassKind) (kept : KeptAnswers) (answering : Answering State) (stack : Stack)
    (past : List Code) (s : State) →
    let w = pass_after kind kept answering stack past s in
    code_of w ≡ codes.Success → Granted kind (action_of kind kept stack) w.state.visits

-- none of these lines resets what was decided before
abbrev pub NoneResets : (Visit → Action) → List Visit → Type 0
NoneResets acts visits = list_any (λ v. resets (acts v)) visits ≡ false

-- after a line whose control has `bad` or `die`, and no `reset` after it, the code isn't SUCCESS
abbrev pub FailedLineDenies : Type 0 → Type 0
FailedLineDenies State =
    (kind : PassKind) (kept : KeptAnswers) (answering : Answering State) (stack : Stack)
    (past : List Code) (s : State) →
    let w = pass_after kind kept answering stack past s in
    (before after : List Visit) (v : Visit) → w.state.visits ≡ before ++ v ∷ after →
    denies (action_of kind kept stack v) ≡ true → NoneResets (action_of kind kept stack) after →
    code_of w ≢ codes.Success

-- whether a code is a failure: `required` and `requisite` let SUCCESS and NEW_AUTHTOK_REQD count,
-- and ignore IGNORE
abbrev pub is_failure : Code → Bool
is_failure codes.Success = false
is_failure codes.NewAuthtokReqd = false
is_failure codes.Ignore = false
is_failure code = true

-- so it is after a `required` or `requisite` line that failed
abbrev pub FailedRequiredDenies : Type 0 → Type 0
FailedRequiredDenies State =
    (kind : PassKind) (kept : KeptAnswers) (answering : Answering State) (stack : Stack)
    (past : List Code) (s : State) →
    let w = pass_after kind kept answering stack past s in
    (before after : List Visit) (v : Visit) → w.state.visits ≡ before ++ v ∷ after →
    (control_of stack v.place ≡ required) ⊎ (control_of stack v.place ≡ requisite) →
    is_failure (deciding_of kind kept v) ≡ true → NoneResets (action_of kind kept stack) after →
    code_of w ≢ codes.Success
