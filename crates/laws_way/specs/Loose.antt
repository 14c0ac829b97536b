-- Runs without cached codes: pam_setcred(3) without an authentication, and pam_close_session(3)
-- without an opened session (the statements are this project's own).
use Rattle.std.specs.Prelude.{◌≡◌, ◌⊎◌, false, List}
use Rattle.pam_base.specs.declared.code.Code.{Code}
use Rattle.pam_base.specs.declared.code.Code.TheVariants as codes
use Rattle.control_words.specs.Stack.{Stack}
use Rattle.handler_chain.specs.declared.impression.Impression.TheVariants.{Undefined}
use Rattle.handler_chain.specs.declared.opinion.Opinion.{Opinion}
use Rattle.handler_chain.specs.declared.pass_kind.PassKind.TheVariants as kinds
use Rattle.handler_chain.specs.Opinion.{opening}
use Rattle.handler_chain.specs.Pass.{Answering, PassState, Visit, pass_after}
use Rattle.handler_chain.specs.Route.{KeptAnswers}
use Rattle.handler_chain.specs.Walk.{Walked, code_of, is_negative}
use Rattle.stack_ways.specs.declared.way.Way.{Way}
use Rattle.stack_ways.specs.Laws.{ArePossible, granted}
use Rattle.stack_ways.specs.MayEnd.{CodesOf}
use Rattle.stack_ways.specs.Ways.{IsListed, WaysOf}

-- the state in which a stack returns SUCCESS, or one in which nothing has decided, except jumps if
-- they count
abbrev pub IsUndenied : Opinion → Type 0
IsUndenied end = (end ≡ granted) ⊎ (end.impression ≡ Undefined)

-- the run ran the lines of the first one, with their codes, and left what that left; it ends denied
-- by a line if that does, and returns SUCCESS only if that does, or if nothing decided in that
pub record GoesAsFirst {State : Type 0} (first loose : Walked (PassState State)) : Type 0 where
  pub stopped : loose.stopped ≡ first.stopped
  pub state : loose.state ≡ first.state
  pub denied : is_negative loose.opinion.impression ≡ is_negative first.opinion.impression
  pub success : code_of loose ≡ codes.Success → IsUndenied first.opinion

-- a run without cached codes, beside the first run that the same modules would give
abbrev pub LooseGoesAsFirst : Type 0 → Type 0
LooseGoesAsFirst State = (kept : KeptAnswers) (answering : Answering State) (stack : Stack)
    (past : List Code) (s : State) →
    GoesAsFirst (pass_after kinds.Keep kept answering stack past s)
    (pass_after kinds.Loose kept answering stack past s)

-- a way is listed, of whose lines each was run and counted; it ends denied by a line if the run does
pub record EndsByWay (counts : CodesOf) (ways : List Way) (ran : List Visit) (end : Opinion)
    : Type 0 where
  pub first : Opinion
  pub listed : IsListed counts ways ran first
  pub denied : is_negative end.impression ≡ is_negative first.impression

abbrev pub LooseEndsByWays : Type 0 → Type 0
LooseEndsByWays State = (possible counts : CodesOf) (stack : Stack) (ways : List Way)
    (kept : KeptAnswers) (answering : Answering State) (past : List Code) (s : State) →
    WaysOf possible counts stack 1 opening ways →
    let w = pass_after kinds.Loose kept answering stack past s in
    w.stopped ≡ false → ArePossible possible w.state.visits →
    EndsByWay counts ways w.state.visits w.opinion

-- a way is listed with SUCCESS, or one in which only jumps decided, of whose lines each was run and
-- counted
pub record IsListedUndenied (counts : CodesOf) (ways : List Way) (ran : List Visit) : Type 0 where
  pub end : Opinion
  pub listed : IsListed counts ways ran end
  pub undenied : IsUndenied end

-- it returns SUCCESS only by such a way
abbrev pub LooseGrantedBy : Type 0 → Type 0
LooseGrantedBy State = (possible counts : CodesOf) (stack : Stack) (ways : List Way)
    (kept : KeptAnswers) (answering : Answering State) (past : List Code) (s : State) →
    WaysOf possible counts stack 1 opening ways →
    let w = pass_after kinds.Loose kept answering stack past s in
    ArePossible possible w.state.visits → code_of w ≡ codes.Success →
    IsListedUndenied counts ways w.state.visits
