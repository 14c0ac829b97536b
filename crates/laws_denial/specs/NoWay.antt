-- A stack without a way to SUCCESS (this project's own).
use Rattle.std.specs.Prelude.{◌≢◌, List, Contains}
use Rattle.pam_base.specs.declared.code.Code.{Code}
use Rattle.pam_base.specs.declared.code.Code.TheVariants.{Success}
use Rattle.control_words.specs.Stack.{Stack}
use Rattle.handler_chain.specs.declared.pass_kind.PassKind.TheVariants as kinds
use Rattle.handler_chain.specs.Opinion.{opening}
use Rattle.handler_chain.specs.Pass.{Answering, pass_after}
use Rattle.handler_chain.specs.Route.{KeptAnswers}
use Rattle.handler_chain.specs.Walk.{code_of}
use Rattle.stack_ways.specs.declared.way.Way.{Way}
use Rattle.stack_ways.specs.Laws.{ArePossible, granted}
use Rattle.stack_ways.specs.MayEnd.{CodesOf}
use Rattle.stack_ways.specs.Ways.{WaysOf}

-- the ways of the stack are listed, if its lines return only possible codes, and with none of them
-- does it return SUCCESS
pub record NoWay (possible : CodesOf) (stack : Stack) : Type 0 where
  pub counts : CodesOf
  pub ways : List Way
  pub ways_of : WaysOf possible counts stack 1 opening ways
  pub none : (way : Way) → Contains ways way → way.opinion ≢ granted

-- a first run of it whose lines returned possible codes doesn't return SUCCESS
abbrev pub NoWayNoSuccess : Type 0 → Type 0
NoWayNoSuccess State = (possible : CodesOf) (stack : Stack) (kept : KeptAnswers)
    (answering : Answering State) (past : List Code) (s : State) → NoWay possible stack →
    let w = pass_after kinds.Keep kept answering stack past s in
    ArePossible possible w.state.visits → code_of w ≢ Success
