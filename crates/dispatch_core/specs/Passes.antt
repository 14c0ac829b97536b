-- What a pass by index leaves.
use Rattle.std.specs.Prelude.{◌≡◌, ℕ, zero, suc, Bool, true, if◌then◌else◌, Option, Some, None, is_some, List, [], ◌∷◌, ◌++◌, Result, Ok, Err}
use Rattle.pam_base.specs.declared.code.Code.{Code}
use Rattle.pam_base.specs.declared.code.Code.TheVariants as codes
use Rattle.pam_base.specs.declared.fault.NoMemory.{NoMemory}
use Rattle.frozen_chain.specs.Kept.{Answers, answer_at, empty_cells}
use Rattle.handler_chain.specs.declared.pass_kind.PassKind.{PassKind}
use Rattle.handler_chain.specs.declared.pass_kind.PassKind.TheVariants as kinds
use Rattle.handler_chain.specs.Opinion.{verdict}
use Rattle.handler_chain.specs.Walk.{Walked, code_of}
use Rattle.handler_chain.specs.Route.{KeptAnswers}
use Rattle.handler_chain.specs.Pass.{PassState, Visit, visit, kept_in, answers_of}
use Rattle.dispatch_core.specs.AnswersSoFar.{AnswersView}

-- cached codes by rule number, from 1
abbrev pub by_place : Answers → KeptAnswers
by_place kept zero = None
by_place kept (suc i) = answer_at kept i

-- ---- one turn: a line returned a code, or None if it left the pass incomplete

abbrev pub answer_in : Option Code → Code
answer_in None = codes.Incomplete
answer_in (Some answer) = answer

abbrev pub visits_with : List Visit → ℕ → Option Code → List Visit
visits_with visits place None = visits
visits_with visits place (Some answer) = visits ++ visit place answer ∷ []

abbrev pub taken_with : List Code → Option Code → List Code
taken_with taken None = taken
taken_with taken (Some answer) = taken ++ answer ∷ []

-- ---- all turns

-- the cells of a pass before its first line: one for each line, if it caches
abbrev pub first_cells : PassKind → ℕ → Answers
first_cells kinds.Keep lines = Some (empty_cells lines)
first_cells kinds.Follow lines = None
first_cells kinds.Loose lines = None

-- the code of a walk, or None if it is incomplete
abbrev pub end_of : {State : Type 0} → Walked State → Option Code
end_of w = if w.stopped then None else Some (verdict w.opinion)

-- cells have the codes of lines that were run
abbrev pub Keeps : Answers → List Visit → Type 0
Keeps kept visits = (place : ℕ) → by_place kept place ≡ kept_in visits place

-- codes are cached: there are cells, and they have the codes of lines that were run
abbrev pub KeepsAll : Answers → List Visit → Type 0
KeepsAll kept visits = (is_some kept ≡ true) × Keeps kept visits

-- what a walk over all lines returned, cached and took is that of a walk
pub record WalksAs {State : Type 0} (w : Walked (PassState State)) (ended : Option Code)
    (kept : Answers) (given : AnswersView) (state : State) : Type 0 where
  pub end_is : ended ≡ end_of w
  pub kept_is : is_some kept ≡ true → Keeps kept w.state.visits
  pub taken_is : given.taken ≡ answers_of w.state.visits
  pub state_is : state ≡ w.state.state

-- the codes to resume with, if a pass is incomplete
abbrev pub paused_after : {State : Type 0} → Walked (PassState State) → Option (List Code)
paused_after w = if w.stopped then Some (answers_of w.state.visits) else None

-- the code of a pass whose walk ended so: INCOMPLETE if the walk is incomplete
abbrev pub code_by : Result (Option Code) NoMemory → Result Code NoMemory
code_by (Ok end) = Ok (answer_in end)
code_by (Err failure) = Err failure

-- the codes to resume it with: the codes so far, if the walk is incomplete
abbrev pub paused_by : Result (Option Code) NoMemory → List Code → Option (List Code)
paused_by (Ok None) taken = Some taken
paused_by (Ok (Some code)) taken = None
paused_by (Err failure) taken = None

-- what is cached after a pass: the codes of its lines, what was cached before, or nothing
abbrev pub KeepsAfter : PassKind → List Visit → Answers → Answers → Type 0
KeepsAfter kinds.Keep visits old new = KeepsAll new visits
KeepsAfter kinds.Follow visits old new = new ≡ old
KeepsAfter kinds.Loose visits old new = new ≡ None

-- what is cached after an allocation failed
abbrev pub kept_failed : PassKind → Answers → Answers
kept_failed kinds.Keep old = None
kept_failed kind old = old

-- what is cached after a pass that has returned a code or not, if `keeps` are its own codes
abbrev pub cells_after : PassKind → Bool → Answers → Answers → Answers
cells_after kinds.Keep answered keeps old = if answered then keeps else None
cells_after kinds.Follow answered keeps old = old
cells_after kinds.Loose answered keeps old = if answered then None else old

-- a code, the cached codes, the codes to resume with and a state are those of a pass
pub record LeavesAs {State : Type 0} (kind : PassKind) (w : Walked (PassState State))
    (before : Answers) (code : Code) (kept : Answers) (paused : Option (List Code))
    (state : State) : Type 0 where
  pub code_is : code ≡ code_of w
  pub kept_is : KeepsAfter kind w.state.visits before kept
  pub paused_is : paused ≡ paused_after w
  pub state_is : state ≡ w.state.state
