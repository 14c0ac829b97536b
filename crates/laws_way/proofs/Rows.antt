-- Runs that the laws are about, computed: that jumps count without cached codes, and what a line may return in a run by
-- cached codes.
use Rattle.std.specs.Prelude.{◌≡◌, ℕ, ◌+◌, ◌-◌, false, List, [], ◌∷◌, None, get_or, map, refl}
use Rattle.pam_base.specs.declared.code.Code.{Code}
use Rattle.pam_base.specs.declared.code.Code.TheVariants as codes
use Rattle.pam_base.specs.Code.{all_codes}
use Rattle.control_words.specs.declared.control.Action.{Action}
use Rattle.control_words.specs.declared.control.Action.TheVariants as actions
use Rattle.control_words.specs.declared.nodes.Rule.{Rule}
use Rattle.control_words.specs.Keyword.{optional, required, sufficient}
use Rattle.control_words.specs.Stack.{Stack, none, line}
use Rattle.handler_chain.specs.declared.pass_kind.PassKind.TheVariants as kinds
use Rattle.handler_chain.specs.Pass.{Answering, kept_in, pass_after}
use Rattle.handler_chain.specs.Walk.{code_of}

abbrev controlled : List Action → Rule
controlled control = record { silent = false; control = control; path = []; args = [] }

abbrev always : Action → List Action
always action = map (λ (c : Code). action) all_codes

-- lines return these codes, in the order of their rule numbers; IGNORE after the last
abbrev returning : List Code → Answering ℕ
returning answers rule place calls = record { answer = get_or answers (place - 1) codes.Ignore; state = calls + 1 }

abbrev first : Stack → List Code → Code
first stack answers = code_of (pass_after kinds.Keep (λ place. None) (returning answers) stack [] 0)

abbrev loose : Stack → List Code → Code
loose stack answers = code_of (pass_after kinds.Loose (λ place. None) (returning answers) stack [] 0)

-- a run by the codes that a first run cached
abbrev again : Stack → List Code → List Code → Code
again stack before answers =
    let kept = kept_in (pass_after kinds.Keep (λ place. None) (returning before) stack [] 0).state.visits in
    code_of (pass_after kinds.Follow kept (returning answers) stack [] 0)

abbrev two : List Action → List Action → Stack
two one other = line (controlled one) (line (controlled other) none)

-- jumps count without cached codes: so nothing need have decided in the first run beside it
jump_alone : first (line (controlled (always (actions.Jump 0))) none) (codes.Success ∷ []) ≡ codes.PermDenied
jump_alone = refl

jump_counts : loose (line (controlled (always (actions.Jump 0))) none) (codes.Success ∷ []) ≡ codes.Success
jump_counts = refl

-- without jumps the codes are the same
failure_denies : loose (two required sufficient) (codes.AuthErr ∷ codes.Success ∷ []) ≡ codes.AuthErr
failure_denies = refl

-- a line that said yes has to say yes again, or IGNORE
says_no_again : again (two required required) (codes.Success ∷ codes.Success ∷ []) (codes.AuthErr ∷ codes.Success ∷ []) ≡ codes.AuthErr
says_no_again = refl

ignores_again : again (two required required) (codes.Success ∷ codes.Success ∷ []) (codes.Ignore ∷ codes.Success ∷ []) ≡ codes.Success
ignores_again = refl

-- but not one whose control ignores the code that it had
ignored_again : again (two (always actions.Ignore) required) (codes.Success ∷ codes.Success ∷ []) (codes.AuthErr ∷ codes.Success ∷ []) ≡ codes.Success
ignored_again = refl

-- nor one after which a line resets
reset_again : again (line (controlled required) (two (always actions.Reset) required)) (codes.Success ∷ codes.Success ∷ codes.Success ∷ [])
    (codes.AuthErr ∷ codes.Success ∷ codes.Success ∷ []) ≡ codes.Success
reset_again = refl

-- a first run that was denied stays denied
denied_again : again (two required optional) (codes.AuthErr ∷ codes.Success ∷ []) (codes.Success ∷ codes.Success ∷ []) ≡ codes.PermDenied
denied_again = refl
