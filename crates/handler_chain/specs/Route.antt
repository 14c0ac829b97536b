-- The lines that a run by cached codes runs.
use Rattle.std.specs.Prelude.{◌≡◌, ℕ, zero, suc, ◌+◌, Bool, true, false, if◌then◌else◌, nat_le, nat_eq, List, [], ◌∷◌, ◌++◌, Option, Some, None, is_some}
use Rattle.std.specs.List.{list_any}
use Rattle.pam_base.specs.declared.code.Code.{Code}
use Rattle.control_words.specs.declared.control.Action.{Action}
use Rattle.control_words.specs.declared.control.Action.TheVariants as actions
use Rattle.control_words.specs.Control.{action_at}
use Rattle.control_words.specs.Stack.{Stack, none, line, sub, count, lines_in}
use Rattle.handler_chain.specs.Walk.{Next, after, stop}

-- the codes that are cached for lines
abbrev pub KeptAnswers : Type 0
KeptAnswers = ℕ → Option Code

-- whether the state is negative after an action, given whether it was at the list's entry and
-- before the line
abbrev pub negative_after : Action → Bool → Bool → Bool
negative_after actions.Ignore entry now = now
negative_after actions.Ok entry now = now
negative_after actions.Done entry now = now
negative_after actions.Bad entry now = true
negative_after actions.Die entry now = true
negative_after actions.Reset entry now = entry
negative_after (actions.Jump n) entry now = now

-- where a list goes on after a line; done ends it unless the state is negative
abbrev pub next_by : Action → ℕ → Bool → Next
next_by actions.Die left now = stop
next_by actions.Done left now = if now then after 0 else stop
next_by (actions.Jump n) left now = if nat_le n left then after n else stop
next_by action left now = after 0

-- whether the state is negative when the list goes on; a jump over more nodes than are left makes
-- it so
abbrev pub negative_past : Action → ℕ → Bool → Bool → Bool
negative_past (actions.Jump n) left entry now = if nat_le n left then now else true
negative_past action left entry now = negative_after action entry now

-- the lines that are run, whether the state is negative after them, and whether one of them has no
-- cached code
pub record Met : Type 0 where
  pub places : List ℕ
  pub negative : Bool
  pub lacks : Bool

abbrev pub met : Bool → Met
met negative = record { places = []; negative = negative; lacks = false }

-- what is met, with lines that were met before
abbrev pub with_met : List ℕ → Met → Met
with_met places m = record { places = places ++ m.places; negative = m.negative; lacks = m.lacks }

abbrev pub onto : Next → (ℕ → Met) → Met → Met
onto (after n) rest here = rest n
onto stop rest here = here

-- a line that acts by its cached code
abbrev pub met_at : ℕ → Option Code → Bool → (Code → Met) → Met
met_at at None negative on = record { places = at ∷ []; negative = negative; lacks = true }
met_at at (Some answer) negative on = with_met (at ∷ []) (on answer)

-- The lines that are run of a stack whose first line has the rule number `at`, with its first n
-- nodes skipped. Of the state only whether it is negative is tracked, and each line acts by its
-- cached code. A line without one is the last.
abbrev pub route_from : KeptAnswers → ℕ → Stack → ℕ → Bool → Bool → Met
route_from kept skip none at entry now = met now
route_from kept (suc skip) (line rule rest) at entry now =
    route_from kept skip rest (at + 1) entry now
route_from kept (suc skip) (sub inner rest) at entry now =
    route_from kept skip rest (at + lines_in inner) entry now
route_from kept zero (line rule rest) at entry now = met_at at (kept at) now (λ answer.
    let action = action_at rule.control answer in
    let last = negative_past action (count rest) entry now in
    onto (next_by action (count rest) now) (λ n. route_from kept n rest (at + 1) entry last)
    (met last))
route_from kept zero (sub inner rest) at entry now =
    let inside = route_from kept zero inner at now now in
    if inside.lacks then inside
    else with_met inside.places (route_from kept zero rest (at + lines_in inner) entry
    inside.negative)

-- the rule numbers of the lines that a run of a whole stack meets, in order
abbrev pub route : Stack → KeptAnswers → List ℕ
route stack kept = (route_from kept 0 stack 1 false false).places

-- the lines with a cached code are exactly those that are run
abbrev pub Complete : Stack → KeptAnswers → Type 0
Complete stack kept = (place : ℕ) → is_some (kept place)
    ≡ list_any (nat_eq place) (route stack kept)
