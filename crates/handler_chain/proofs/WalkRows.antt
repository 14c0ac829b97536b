-- Test cases: stacks, computed on the definitions, with modules whose codes are fixed by the rule
-- numbers of their lines.
use Rattle.std.proofs.Common.{◌≡◌, ℕ, ◌-◌, false, nat_eq, if◌then◌else◌, List, [], ◌∷◌, None, get_or, refl}
use Rattle.pam_base.specs.declared.code.Code.{Code}
use Rattle.pam_base.specs.declared.code.Code.TheVariants.{Success, PermDenied, AuthErr, CredUnavail, CredErr, SessionErr, MaxTries, TryAgain, Ignore, Incomplete}
use Rattle.control_words.specs.declared.control.Action.{Action}
use Rattle.control_words.specs.declared.control.Action.TheVariants as actions
use Rattle.control_words.specs.declared.nodes.Rule.{Rule}
use Rattle.control_words.specs.Control.{usual}
use Rattle.control_words.specs.Keyword.{required, requisite, sufficient, optional}
use Rattle.control_words.specs.Stack.{Stack, none, line, sub}
use Rattle.handler_chain.specs.declared.pass_kind.PassKind.TheVariants.{Keep, Follow, Loose}
use Rattle.handler_chain.specs.declared.impression.Impression.TheVariants.{Positive}
use Rattle.handler_chain.specs.Opinion.{acted, opening, opinion_of}
use Rattle.handler_chain.specs.Walk.{Walked, code_of}
use Rattle.handler_chain.specs.Route.{route}
use Rattle.handler_chain.specs.Pass.{Answering, PassState, visit, kept_in, answers_of, pass_after}

-- a line with a control; its module returns a code by its rule number
abbrev by : List Action → Rule
by control = record { silent = false; control = control; path = []; args = [] }

-- [success=N default=ignore]
abbrev jump : ℕ → List Action
jump n = usual (actions.Jump n) actions.Ignore actions.Ignore

-- [default=..]
abbrev always : Action → List Action
always action = usual action action action

-- the lines 1, 2, .. return these; the state is the list of lines that still have to return
-- INCOMPLETE, once each
abbrev fixed : List Code → Answering (List ℕ)
fixed codes rule at [] = record { answer = get_or codes (at - 1) Success; state = [] }
fixed codes rule at (later ∷ others) =
    let waits = nat_eq at later in
    record { answer = if waits then Incomplete else get_or codes (at - 1) Success; state = if waits then others else later ∷ others }

abbrev Passed : Type 0
Passed = Walked (PassState (List ℕ))

abbrev keep : Stack → List Code → Passed
keep stack codes = pass_after Keep (λ place. None) (fixed codes) stack [] []

-- a run by the codes that a first run cached
abbrev follow : Stack → List Code → List Code → Passed
follow stack first codes = pass_after Follow (kept_in (keep stack first).state.visits) (fixed codes) stack [] []

abbrev loose : Stack → List Code → Passed
loose stack codes = pass_after Loose (λ place. None) (fixed codes) stack [] []

-- an empty stack denies
abbrev empty : Stack
empty = none

empty-code : code_of (keep empty []) ≡ PermDenied
empty-code = refl

empty-visits : (keep empty []).state.visits ≡ []
empty-visits = refl

-- a stack whose lines are all ignored denies
abbrev ignored : Stack
ignored = line (by (always actions.Ignore)) none

ignored-code : code_of (keep ignored (Success ∷ [])) ≡ PermDenied
ignored-code = refl

ignored-visits : (keep ignored (Success ∷ [])).state.visits ≡ visit 1 Success ∷ []
ignored-visits = refl

-- the first failure counts, whatever comes later
abbrev failed : Stack
failed = line (by required) (line (by sufficient) (line (by required) none))

failed-code : code_of (keep failed (AuthErr ∷ Success ∷ Success ∷ [])) ≡ AuthErr
failed-code = refl

failed-visits : (keep failed (AuthErr ∷ Success ∷ Success ∷ [])).state.visits ≡ visit 1 AuthErr ∷ visit 2 Success ∷ visit 3 Success ∷ []
failed-visits = refl

-- a later failure does not replace it
failed_twice-code : code_of (keep failed (AuthErr ∷ Success ∷ MaxTries ∷ [])) ≡ AuthErr
failed_twice-code = refl

failed_twice-visits : (keep failed (AuthErr ∷ Success ∷ MaxTries ∷ [])).state.visits ≡ visit 1 AuthErr ∷ visit 2 Success ∷ visit 3 MaxTries ∷ []
failed_twice-visits = refl

-- a substack is one node for a jump, and its lines count for the rule numbers
abbrev over_substack : Stack
over_substack = line (by (jump 1)) (sub (line (by required) (line (by required) (line (by required) none))) (line (by required) none))

over_substack-code : code_of (keep over_substack (Success ∷ AuthErr ∷ AuthErr ∷ AuthErr ∷ Success ∷ [])) ≡ Success
over_substack-code = refl

over_substack-visits : (keep over_substack (Success ∷ AuthErr ∷ AuthErr ∷ AuthErr ∷ Success ∷ [])).state.visits ≡ visit 1 Success ∷ visit 5 Success ∷ []
over_substack-visits = refl

-- of two substacks one is skipped
abbrev second_substack : Stack
second_substack = line (by (jump 1)) (sub (line (by required) none) (sub (line (by required) none) none))

second_substack-code : code_of (keep second_substack (Success ∷ AuthErr ∷ Success ∷ [])) ≡ Success
second_substack-code = refl

second_substack-visits : (keep second_substack (Success ∷ AuthErr ∷ Success ∷ [])).state.visits ≡ visit 1 Success ∷ visit 3 Success ∷ []
second_substack-visits = refl

-- a substack without lines is a node like any other
abbrev over_empty : Stack
over_empty = line (by required) (line (by (jump 1)) (sub none none))

over_empty-code : code_of (keep over_empty (Success ∷ Success ∷ [])) ≡ Success
over_empty-code = refl

over_empty-visits : (keep over_empty (Success ∷ Success ∷ [])).state.visits ≡ visit 1 Success ∷ visit 2 Success ∷ []
over_empty-visits = refl

-- a jump over more nodes than are left denies
abbrev overrun : Stack
overrun = line (by required) (line (by (jump 2)) (line (by required) none))

overrun-code : code_of (keep overrun (AuthErr ∷ Success ∷ Success ∷ [])) ≡ PermDenied
overrun-code = refl

overrun-visits : (keep overrun (AuthErr ∷ Success ∷ Success ∷ [])).state.visits ≡ visit 1 AuthErr ∷ visit 2 Success ∷ []
overrun-visits = refl

-- a jump to the end of its list is allowed
abbrev to_the_end : Stack
to_the_end = line (by required) (line (by (jump 1)) (line (by required) none))

to_the_end-code : code_of (keep to_the_end (Success ∷ Success ∷ AuthErr ∷ [])) ≡ Success
to_the_end-code = refl

to_the_end-visits : (keep to_the_end (Success ∷ Success ∷ AuthErr ∷ [])).state.visits ≡ visit 1 Success ∷ visit 2 Success ∷ []
to_the_end-visits = refl

-- what ends a substack ends only the substack
abbrev ended_inside : Stack
ended_inside = sub (line (by requisite) (line (by required) none)) (line (by required) none)

ended_inside-code : code_of (keep ended_inside (AuthErr ∷ Success ∷ Success ∷ [])) ≡ AuthErr
ended_inside-code = refl

ended_inside-visits : (keep ended_inside (AuthErr ∷ Success ∷ Success ∷ [])).state.visits ≡ visit 1 AuthErr ∷ visit 3 Success ∷ []
ended_inside-visits = refl

-- a reset in a substack goes back to the state at its entry
abbrev reset_inside : Stack
reset_inside = line (by required) (sub (line (by required) (line (by (always actions.Reset)) none)) (line (by optional) none))

reset_inside-code : code_of (keep reset_inside (Success ∷ AuthErr ∷ Success ∷ AuthErr ∷ [])) ≡ Success
reset_inside-code = refl

reset_inside-visits : (keep reset_inside (Success ∷ AuthErr ∷ Success ∷ AuthErr ∷ [])).state.visits ≡ visit 1 Success ∷ visit 2 AuthErr ∷ visit 3 Success ∷ visit 4 AuthErr ∷ []
reset_inside-visits = refl

-- a run by cached codes runs the lines of the first run: a failure now does not lead it to another
-- line
abbrev enough : Stack
enough = line (by sufficient) (line (by required) none)

enough-code : code_of (keep enough (Success ∷ Success ∷ [])) ≡ Success
enough-code = refl

enough-visits : (keep enough (Success ∷ Success ∷ [])).state.visits ≡ visit 1 Success ∷ []
enough-visits = refl

-- the same in a run by cached codes
enough_followed-code : code_of (follow enough (Success ∷ Success ∷ []) (CredErr ∷ Success ∷ [])) ≡ CredErr
enough_followed-code = refl

enough_followed-visits : (follow enough (Success ∷ Success ∷ []) (CredErr ∷ Success ∷ [])).state.visits ≡ visit 1 CredErr ∷ []
enough_followed-visits = refl

-- an IGNORE leaves the state undefined, and the list still ends
enough_ignored-code : code_of (follow enough (Success ∷ Success ∷ []) (Ignore ∷ Success ∷ [])) ≡ PermDenied
enough_ignored-code = refl

enough_ignored-visits : (follow enough (Success ∷ Success ∷ []) (Ignore ∷ Success ∷ [])).state.visits ≡ visit 1 Ignore ∷ []
enough_ignored-visits = refl

-- a run without cached codes decides by its own codes
abbrev one : Stack
one = line (by required) none

one-code : code_of (loose one (CredUnavail ∷ [])) ≡ CredUnavail
one-code = refl

one-visits : (loose one (CredUnavail ∷ [])).state.visits ≡ visit 1 CredUnavail ∷ []
one-visits = refl

-- a first pass that fails, and one that its second pass follows
one_again-code : code_of (keep one (TryAgain ∷ [])) ≡ TryAgain
one_again-code = refl

one_again-visits : (keep one (TryAgain ∷ [])).state.visits ≡ visit 1 TryAgain ∷ []
one_again-visits = refl

-- the second pass
one_followed-code : code_of (follow one (Success ∷ []) (Success ∷ [])) ≡ Success
one_followed-code = refl

one_followed-visits : (follow one (Success ∷ []) (Success ∷ [])).state.visits ≡ visit 1 Success ∷ []
one_followed-visits = refl

-- in a run by cached codes a jump counts as ok, unless the code is IGNORE
abbrev over_line : Stack
over_line = line (by (jump 1)) (line (by required) (line (by required) none))

over_line-code : code_of (keep over_line (Success ∷ Success ∷ Success ∷ [])) ≡ Success
over_line-code = refl

over_line-visits : (keep over_line (Success ∷ Success ∷ Success ∷ [])).state.visits ≡ visit 1 Success ∷ visit 3 Success ∷ []
over_line-visits = refl

-- the same in a run by cached codes
over_line_followed-code : code_of (follow over_line (Success ∷ Success ∷ Success ∷ []) (CredErr ∷ Success ∷ Success ∷ [])) ≡ CredErr
over_line_followed-code = refl

over_line_followed-visits : (follow over_line (Success ∷ Success ∷ Success ∷ []) (CredErr ∷ Success ∷ Success ∷ [])).state.visits ≡ visit 1 CredErr ∷ visit 3 Success ∷ []
over_line_followed-visits = refl

-- an optional line that was cached as a success counts, whatever it returns later
abbrev session : Stack
session = line (by optional) none

session-code : code_of (keep session (Success ∷ [])) ≡ Success
session-code = refl

session-visits : (keep session (Success ∷ [])).state.visits ≡ visit 1 Success ∷ []
session-visits = refl

-- the same in a run by cached codes
session_followed-code : code_of (follow session (Success ∷ []) (SessionErr ∷ [])) ≡ SessionErr
session_followed-code = refl

session_followed-visits : (follow session (Success ∷ []) (SessionErr ∷ [])).state.visits ≡ visit 1 SessionErr ∷ []
session_followed-visits = refl

-- but in a run without cached codes its failure is ignored
session_loose-code : code_of (loose session (SessionErr ∷ [])) ≡ PermDenied
session_loose-code = refl

session_loose-visits : (loose session (SessionErr ∷ [])).state.visits ≡ visit 1 SessionErr ∷ []
session_loose-visits = refl

-- a line inside a substack leaves the pass incomplete; the substack's entry state still holds when
-- the pass is resumed
abbrev waiting : Stack
waiting = line (by required) (sub (line (by required) (line (by required) (line (by (always actions.Reset)) none))) none)

abbrev first_call : Passed
first_call = pass_after Keep (λ place. None) (fixed (Success ∷ AuthErr ∷ Success ∷ Success ∷ [])) waiting [] (3 ∷ [])

first_call-code : code_of first_call ≡ Incomplete
first_call-code = refl

first_call-visits : first_call.state.visits ≡ visit 1 Success ∷ visit 2 AuthErr ∷ []
first_call-visits = refl

abbrev second_call : Passed
second_call = pass_after Keep (λ place. None) (fixed (Success ∷ AuthErr ∷ Success ∷ Success ∷ [])) waiting (answers_of first_call.state.visits) first_call.state.state

second_call-code : code_of second_call ≡ Success
second_call-code = refl

second_call-visits : second_call.state.visits ≡ visit 1 Success ∷ visit 2 AuthErr ∷ visit 3 Success ∷ visit 4 Success ∷ []
second_call-visits = refl

-- a module that returns INCOMPLETE leaves the pass incomplete each time
incomplete-code : code_of (keep one (Incomplete ∷ [])) ≡ Incomplete
incomplete-code = refl

incomplete-visits : (keep one (Incomplete ∷ [])).state.visits ≡ []
incomplete-visits = refl

-- the route of cached codes: a done in a substack ends only the substack
in_substack : route (sub (line (by sufficient) (line (by required) none)) (line (by required) none)) (kept_in (visit 1 Success ∷ visit 3 Success ∷ [])) ≡ 1 ∷ 3 ∷ []
in_substack = refl

-- but not if the state is negative
after_bad : route failed (kept_in (visit 1 AuthErr ∷ visit 2 Success ∷ visit 3 Success ∷ [])) ≡ 1 ∷ 2 ∷ 3 ∷ []
after_bad = refl

-- a substack counts as one node for a jump, with all its lines
around_substack : route over_substack (kept_in (visit 1 Success ∷ visit 5 Success ∷ [])) ≡ 1 ∷ 5 ∷ []
around_substack = refl

-- a line without a cached code is the last, even in a substack
lacking : route ended_inside (kept_in []) ≡ 1 ∷ []
lacking = refl

-- A done that was cached as SUCCESS leaves an undefined state as it is if the present code is IGNORE, and makes it
-- positive at a SUCCESS. Whether it is negative is the same in both, so a list ends at both or at neither.
stays_undefined : acted Follow actions.Done Ignore Success opening opening ≡ opening
stays_undefined = refl

turns_positive : acted Follow actions.Done Success Success opening opening ≡ opinion_of Positive Success
turns_positive = refl
