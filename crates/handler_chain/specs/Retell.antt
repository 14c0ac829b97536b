-- A run replayed by the lines that it recorded (this project's own).
use Rattle.std.specs.Prelude.{◌≡◌, ℕ, Bool, true, false, ◌&&◌, nat_eq, if◌then◌else◌, List, [], ◌∷◌, ◌++◌}
use Rattle.std.specs.Str.{bytes_eq}
use Rattle.pam_base.specs.declared.code.Code.{Code}
use Rattle.pam_base.specs.declared.code.Code.TheVariants as codes
use Rattle.control_words.specs.declared.nodes.Rule.{Rule}
use Rattle.control_words.specs.Module.{name_of_module}
use Rattle.control_words.specs.Stack.{Stack}
use Rattle.handler_chain.specs.declared.pass_kind.PassKind.{PassKind}
use Rattle.handler_chain.specs.Route.{KeptAnswers}
use Rattle.handler_chain.specs.Walk.{Walked}
use Rattle.handler_chain.specs.Pass.{Answered, Answering, PassState, answers_of, decides, pass_after, pass_state}

-- a line of a stack that was run: its rule number, its module's name, its return code
pub record RecordedLine : Type 0 where
  pub place : ℕ
  pub name : List ℕ
  pub answer : Code

abbrev pub seen_at : ℕ → List ℕ → Code → RecordedLine
seen_at place name answer = record { place = place; name = name; answer = answer }

-- the recorded lines that are left, and whether a line was run that isn't the next of them
pub record Telling : Type 0 where
  pub left : List RecordedLine
  pub astray : Bool

abbrev pub telling : List RecordedLine → Telling
telling left = record { left = left; astray = false }

abbrev pub strays : List RecordedLine → Answered Telling
strays left = record { answer = codes.Incomplete; state = record { left = left; astray = true } }

-- a recorded line is that of a rule with this rule number
abbrev pub is_of : RecordedLine → Rule → ℕ → Bool
is_of v rule place = nat_eq v.place place && bytes_eq v.name (name_of_module rule.path)

-- a line returns the code of the next recorded line, if that belongs to this line; else the replay
-- stops
abbrev pub answer_told : Rule → ℕ → List RecordedLine → Answered Telling
answer_told rule place [] = strays []
answer_told rule place (v ∷ vs) = if is_of v rule place
    then record { answer = v.answer; state = telling vs } else strays (v ∷ vs)

-- what lines return in a replay
abbrev pub replaying : Answering Telling
replaying rule place t = answer_told rule place t.left

-- each line that is run is added to a trace, and nothing else is
abbrev pub Trails : {State : Type 0} → (State → List RecordedLine) → Answering State → Type 0
Trails {State} trail answering = (rule : Rule) (place : ℕ) (s : State) →
    trail (answering rule place s).state ≡ trail s
    ++ seen_at place (name_of_module rule.path) (answering rule place s).answer ∷ []

-- the same run over recorded lines, with these left
abbrev pub told_again : {State : Type 0} → Walked (PassState State) → List RecordedLine
    → Walked (PassState Telling)
told_again w left = record {
  opinion = w.opinion;
  state = pass_state w.state.past w.state.visits (telling left);
  stopped = w.stopped;
}

-- A run that records its lines in a trace: replayed by these lines it is the same, and takes no
-- more lines.
pub record Retold {State : Type 0} (trail : State → List RecordedLine) (before : List RecordedLine)
    (w : Walked (PassState State)) (again : List RecordedLine → Walked (PassState Telling)) : Type 0 where
  pub news : List RecordedLine
  pub adds : trail w.state.state ≡ before ++ news
  pub same : (more : List RecordedLine) → again (news ++ more) ≡ told_again w more

abbrev pub Retells : Type 0 → Type 0
Retells State = (trail : State → List RecordedLine) (kind : PassKind) (kept : KeptAnswers)
    (answering : Answering State) → Trails trail answering →
    (stack : Stack) (past : List Code) (s : State)
    → Retold trail (trail s) (pass_after kind kept answering stack past s) (λ left.
    pass_after kind kept replaying stack past (telling left))

-- The codes of an incomplete run, replayed with no more recorded lines, end at a line that is run.
-- What is cached by then doesn't matter if it doesn't decide.
abbrev pub ResumesAsking : Type 0 → Type 0
ResumesAsking State =
    (kind : PassKind) (kept later : KeptAnswers) (answering : Answering State) (stack : Stack)
    (past : List Code) (s : State) →
    ((place : ℕ) (answer : Code) → decides kind later place answer ≡ decides kind kept place answer)
    →
    let w = pass_after kind kept answering stack past s in
    w.stopped ≡ true →
    let again = pass_after kind later replaying stack (answers_of w.state.visits) (telling []) in
    (again.stopped ≡ true) × (again.state.state.astray ≡ true)
