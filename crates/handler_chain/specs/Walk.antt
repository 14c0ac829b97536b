-- The nested meaning of a stack: a walk over its lines and substacks.
use Rattle.std.specs.Prelude.{◌≡◌, ℕ, zero, suc, ◌+◌, Bool, true, false, not, if◌then◌else◌, nat_le}
use Rattle.pam_base.specs.declared.code.Code.{Code}
use Rattle.pam_base.specs.declared.code.Code.TheVariants as codes
use Rattle.control_words.specs.declared.control.Action.{Action}
use Rattle.control_words.specs.declared.control.Action.TheVariants as actions
use Rattle.control_words.specs.declared.nodes.Rule.{Rule}
use Rattle.control_words.specs.Control.{action_at}
use Rattle.control_words.specs.Stack.{Stack, none, line, sub, count, lines_in}
use Rattle.handler_chain.specs.declared.impression.Impression.{Impression}
use Rattle.handler_chain.specs.declared.impression.Impression.TheVariants.{Negative}
use Rattle.handler_chain.specs.declared.opinion.Opinion.{Opinion}
use Rattle.handler_chain.specs.declared.pass_kind.PassKind.{PassKind}
use Rattle.handler_chain.specs.Opinion.{acted, opening, overrun, verdict}

-- what a line returned, the code that picks its action, whether the walk is incomplete there, and
-- the state after it
pub record Served (State : Type 0) : Type 0 where
  pub answer : Code
  pub deciding : Code
  pub stopped : Bool
  pub state : State

-- how the line of a rule with a rule number is served
abbrev pub Serving : Type 0 → Type 0
Serving State = Rule → ℕ → State → Served State

-- the result of a walk
pub record Walked (State : Type 0) : Type 0 where
  pub opinion : Opinion
  pub state : State
  pub stopped : Bool

abbrev pub walked : {State : Type 0} → Opinion → State → Walked State
walked opinion state = record { opinion = opinion; state = state; stopped = false }

-- incomplete: the state is as the line left it
abbrev pub halted : {State : Type 0} → Opinion → State → Walked State
halted opinion state = record { opinion = opinion; state = state; stopped = true }

abbrev pub is_negative : Impression → Bool
is_negative Negative = true
is_negative impression = false

-- whether a list ends after a line: after die, and after done unless the new state is negative
abbrev pub ends : Action → Opinion → Bool
ends actions.Die new = true
ends actions.Done new = not (is_negative new.impression)
ends action new = false

-- where a list goes on after a line: n nodes further, or nowhere
pub data Next : Type 0 where
  after : ℕ → Next
  stop : Next

-- `left` is the number of nodes left
abbrev pub next_of : Action → ℕ → Opinion → Next
next_of (actions.Jump n) left new = if nat_le n left then after n else stop
next_of action left new = if ends action new then stop else after 0

-- the state after a line; a jump over more nodes than are left fails
abbrev pub new_or_overrun : Action → ℕ → Opinion → Opinion
new_or_overrun (actions.Jump n) left new = if nat_le n left then new else overrun
new_or_overrun action left new = new

-- the walk of what is left, by where the list goes on
abbrev pub onward : {State : Type 0} → Next → (ℕ → Walked State) → Walked State → Walked State
onward (after n) rest here = rest n
onward stop rest here = here

-- The walk over a stack whose first line has the rule number `at`, with its first n nodes skipped.
-- A substack is walked with the present state as its entry; what ends it ends only itself, but if a
-- line is incomplete, so is the whole walk.
abbrev pub walk : {State : Type 0} → PassKind → Serving State → ℕ → Stack → ℕ → Opinion → Opinion
    → State → Walked State
walk kind serve skip none at entry opinion state = walked opinion state
walk kind serve (suc skip) (line rule rest) at entry opinion state =
    walk kind serve skip rest (at + 1) entry opinion state
walk kind serve (suc skip) (sub inner rest) at entry opinion state =
    walk kind serve skip rest (at + lines_in inner) entry opinion state
walk kind serve zero (line rule rest) at entry opinion state =
    let served = serve rule at state in
    let action = action_at rule.control served.deciding in
    let new = acted kind action served.answer served.deciding entry opinion in
    let last = new_or_overrun action (count rest) new in
    if served.stopped then halted opinion served.state
    else onward (next_of action (count rest) new) (λ n.
    walk kind serve n rest (at + 1) entry last served.state) (walked last served.state)
walk kind serve zero (sub inner rest) at entry opinion state =
    let inside = walk kind serve zero inner at opinion opinion state in
    if inside.stopped then inside
    else walk kind serve zero rest (at + lines_in inner) entry inside.opinion inside.state

-- the walk of a whole stack, from rule number 1
abbrev pub pass : {State : Type 0} → PassKind → Serving State → Stack → State → Walked State
pass kind serve stack state = walk kind serve 0 stack 1 opening opening state

-- the code of a walk that has ended
abbrev pub code_of : {State : Type 0} → Walked State → Code
code_of w = if w.stopped then codes.Incomplete else verdict w.opinion

-- a code and a state are those of a walk that has ended
pub record EndsAs {State : Type 0} (w : Walked State) (code : Code) (state : State) : Type 0 where
  pub code_is : code ≡ code_of w
  pub state_is : state ≡ w.state

-- codes, and a state, are those of a line
pub record ServedAs {State : Type 0} (served : Served State) (answer deciding : Code)
    (stopped : Bool) (state : State) : Type 0 where
  pub answer_is : answer ≡ served.answer
  pub deciding_is : deciding ≡ served.deciding
  pub stopped_is : stopped ≡ served.stopped
  pub state_is : state ≡ served.state
