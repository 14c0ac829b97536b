-- A run by cached codes runs the lines of the run that cached them.
use Rattle.std.specs.Prelude.{◌≡◌, ℕ, ◌<◌, Bool, false, true, nat_eq, List, [], ◌++◌, length, is_some}
use Rattle.std.specs.List.{list_any}
use Rattle.pam_base.specs.declared.code.Code.{Code}
use Rattle.control_words.specs.Stack.{Stack}
use Rattle.handler_chain.specs.declared.pass_kind.PassKind.{PassKind}
use Rattle.handler_chain.specs.declared.pass_kind.PassKind.TheVariants as kinds
use Rattle.handler_chain.specs.Route.{KeptAnswers, route, Complete}
use Rattle.handler_chain.specs.Pass.{Visit, Answering, kept_in, places_of, answers_of, pass_after}

-- when a first run has ended, the codes of its lines are complete for its stack, whatever was
-- cached before
abbrev pub KeepsComplete : Type 0 → Type 0
KeepsComplete State =
    (before : KeptAnswers) (answering : Answering State) (stack : Stack) (past : List Code)
    (s : State) →
    let w = pass_after kinds.Keep before answering stack past s in
    w.stopped ≡ false → Complete stack (kept_in w.state.visits)

-- these codes lead to the lines that were run, in order
abbrev pub KeepsRoute : Type 0 → Type 0
KeepsRoute State = (before : KeptAnswers) (answering : Answering State) (stack : Stack)
    (past : List Code) (s : State) →
    let w = pass_after kinds.Keep before answering stack past s in
    w.stopped ≡ false → route stack (kept_in w.state.visits) ≡ places_of w.state.visits

-- lines that were run are a prefix of others, in order: all of them once the run has ended, fewer
-- while it is incomplete
pub record Follows (places visited : List ℕ) (stopped : Bool) : Type 0 where
  pub left : List ℕ
  pub in_order : visited ++ left ≡ places
  pub whole : stopped ≡ false → left ≡ []
  pub fewer : stopped ≡ true → 0 < length left

-- a run by complete cached codes runs the lines that they lead to, whatever the modules return
abbrev pub FollowsRoute : Type 0 → Type 0
FollowsRoute State = (answering : Answering State) (stack : Stack) (kept : KeptAnswers)
    (past : List Code) (s : State) → Complete stack kept →
    let w = pass_after kinds.Follow kept answering stack past s in
    Follows (route stack kept) (places_of w.state.visits) w.stopped

-- every cached code that it needs is there
abbrev pub FindsKept : Type 0 → Type 0
FindsKept State = (answering : Answering State) (stack : Stack) (kept : KeptAnswers)
    (past : List Code) (s : State) → Complete stack kept → (place : ℕ) →
    let w = pass_after kinds.Follow kept answering stack past s in
    list_any (nat_eq place) (places_of w.state.visits) ≡ true → is_some (kept place) ≡ true

-- so it runs the lines of the run that cached them
abbrev pub FollowsKeep : Type 0 → Type 0
FollowsKeep State = (before : KeptAnswers) (answering later_answering : Answering State)
    (stack : Stack) (past later_past : List Code) (s later : State) →
    let kept = pass_after kinds.Keep before answering stack past s in
    kept.stopped ≡ false →
    let w = pass_after kinds.Follow (kept_in kept.state.visits) later_answering stack later_past
    later in
    Follows (places_of kept.state.visits) (places_of w.state.visits) w.stopped

-- An incomplete run is resumed where it was: with the codes of its lines as past, the next one has
-- these lines first.
abbrev pub GoesOn : Type 0 → Type 0
GoesOn State = (kind : PassKind) (kept : KeptAnswers) (answering later_answering : Answering State)
    (stack : Stack) (past : List Code) (s later : State) →
    let w = pass_after kind kept answering stack past s in
    w.stopped ≡ true →
    (more : List Visit) × ((pass_after kind kept later_answering stack (answers_of w.state.visits)
    later).state.visits ≡ w.state.visits ++ more)
