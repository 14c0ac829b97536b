-- A run of a stack (pam_sm_setcred(3); INCOMPLETE is this project's own): which code decides, which
-- lines are run, and how an incomplete run is resumed.
use Rattle.std.specs.Prelude.{◌≡◌, ℕ, Bool, true, false, if◌then◌else◌, nat_eq, List, [], ◌∷◌, ◌++◌, Some, None, unwrap_or}
use Rattle.pam_base.specs.declared.code.Code.{Code}
use Rattle.pam_base.specs.declared.code.Code.TheVariants as codes
use Rattle.control_words.specs.declared.nodes.Rule.{Rule}
use Rattle.control_words.specs.Stack.{Stack}
use Rattle.handler_chain.specs.declared.pass_kind.PassKind.{PassKind}
use Rattle.handler_chain.specs.declared.pass_kind.PassKind.TheVariants as kinds
use Rattle.handler_chain.specs.Walk.{Served, Serving, Walked, pass}
use Rattle.handler_chain.specs.Route.{KeptAnswers}

-- what a line returns when it is run, and the state of all that it can change
pub record Answered (State : Type 0) : Type 0 where
  pub answer : Code
  pub state : State

-- what the line with this rule number returns when it is run
abbrev pub Answering : Type 0 → Type 0
Answering State = Rule → ℕ → State → Answered State

-- a code and a state are those of a line that was run
pub record AnswersAs {State : Type 0} (a : Answered State) (answer : Code) (state : State) : Type
    0 where
  pub answer_is : answer ≡ a.answer
  pub state_is : state ≡ a.state

-- the code that leaves a run incomplete, to be resumed at this line later
abbrev pub is_incomplete : Code → Bool
is_incomplete codes.Incomplete = true
is_incomplete answer = false

-- the line with this rule number was run, and returned this code
pub record Visit : Type 0 where
  pub place : ℕ
  pub answer : Code

abbrev pub visit : ℕ → Code → Visit
visit place answer = record { place = place; answer = answer }

abbrev pub places_of : List Visit → List ℕ
places_of [] = []
places_of (v ∷ vs) = v.place ∷ places_of vs

abbrev pub answers_of : List Visit → List Code
answers_of [] = []
answers_of (v ∷ vs) = v.answer ∷ answers_of vs

-- lines that were run, as cached codes: for each line that of its first time
abbrev pub kept_in : List Visit → KeptAnswers
kept_in [] place = None
kept_in (v ∷ vs) place = if nat_eq place v.place then Some v.answer else kept_in vs place

-- the deciding code: the cached one in a run by cached codes, else the present one
abbrev pub decides : PassKind → KeptAnswers → ℕ → Code → Code
decides kinds.Follow kept place answer = unwrap_or (kept place) answer
decides kind kept place answer = answer

-- within a run: the codes of its earlier calls that are left, the lines that it has run in order,
-- and what lines can change
pub record PassState (State : Type 0) : Type 0 where
  pub past : List Code
  pub visits : List Visit
  pub state : State

abbrev pub pass_state : {State : Type 0} → List Code → List Visit → State → PassState State
pass_state past visits state = record { past = past; visits = visits; state = state }

-- a line that was run; one that leaves the run incomplete doesn't count
abbrev pub served_now : {State : Type 0} → PassKind → KeptAnswers → ℕ → List Visit → Answered State
    → Served (PassState State)
served_now kind kept at visits a = record {
  answer = a.answer;
  deciding = decides kind kept at a.answer;
  stopped = is_incomplete a.answer;
  state = pass_state [] (if is_incomplete a.answer then visits
      else visits ++ visit at a.answer ∷ []) a.state;
}

-- the next code is the first of the earlier ones, if one is left, and nothing else changes; else
-- the line is run
abbrev pub served_past : {State : Type 0} → PassKind → KeptAnswers → Answering State → Rule → ℕ
    → List Code → List Visit → State → Served (PassState State)
served_past kind kept answering rule at [] visits state =
    served_now kind kept at visits (answering rule at state)
served_past kind kept answering rule at (p ∷ past) visits state = record {
  answer = p;
  deciding = decides kind kept at p;
  stopped = false;
  state = pass_state past (visits ++ visit at p ∷ []) state;
}

abbrev pub serving : {State : Type 0} → PassKind → KeptAnswers → Answering State
    → Serving (PassState State)
serving kind kept answering rule at s =
    served_past kind kept answering rule at s.past s.visits s.state

-- the run of a whole stack, after the codes of its earlier calls
abbrev pub pass_after : {State : Type 0} → PassKind → KeptAnswers → Answering State → Stack
    → List Code → State → Walked (PassState State)
pass_after kind kept answering stack past state =
    pass kind (serving kind kept answering) stack (pass_state past [] state)
