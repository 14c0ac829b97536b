-- The rows of a run of a stack: what became of each of its lines (this project's own).
use Rattle.std.specs.Prelude.{ℕ, zero, suc, ◌+◌, ◌-◌, drop, length, if◌then◌else◌, List, [], ◌∷◌, ◌++◌, Option, Some, None}
use Rattle.pam_base.specs.declared.code.Code.{Code}
use Rattle.control_words.specs.Control.{action_at}
use Rattle.control_words.specs.Stack.{Stack, none, line, sub, count, lines_in}
use Rattle.handler_chain.specs.declared.opinion.Opinion.{Opinion}
use Rattle.handler_chain.specs.declared.pass_kind.PassKind.{PassKind}
use Rattle.handler_chain.specs.Opinion.{acted, opening}
use Rattle.handler_chain.specs.Walk.{Next, after, stop, next_of, new_or_overrun, Serving, walk}
use Rattle.handler_chain.specs.Pass.{pass_state, serving}
use Rattle.handler_chain.specs.Retell.{Telling, replaying}
use Rattle.handler_chain.specs.Route.{KeptAnswers}
use Rattle.pass_replay.specs.Walk.{skip_of}
use Rattle.explain_lines.specs.declared.row.Fate.{Fate}
use Rattle.explain_lines.specs.declared.row.Fate.TheVariants.{Ran, Waits, Jumped, Ended, Unreached}
use Rattle.explain_lines.specs.declared.row.Row.{Row}
use Rattle.explain_lines.specs.Rows.{row_of}
use Rattle.explain_calls.specs.declared.turn.Turn.{Turn}

-- the last n of some items
abbrev pub last_of : {A : Type 0} → ℕ → List A → List A
last_of n items = drop (length items - n) items

-- the rows of lines that weren't run, all for one reason
abbrev pub rows_over : Fate → ℕ → Stack → List Row
rows_over why at none = []
rows_over why at (line rule rest) = row_of at rule why ∷ rows_over why (at + 1) rest
rows_over why at (sub inner rest) = rows_over why at inner ++ rows_over why (at + lines_in inner) rest

-- why nodes are skipped after the line of a rule, given where its list goes on
abbrev pub why_by : Next → ℕ → Fate
why_by (after n) at = Jumped at
why_by stop at = Ended at

module _ {State : Type 0} (kind : PassKind) (serve : Serving State) where
  -- The rows of a walk over a stack whose first line has the rule number `at`, with its first n
  -- nodes skipped for this reason. Lines after one that waits weren't reached.
  abbrev pub rows : ℕ → Fate → Stack → ℕ → Opinion → Opinion → State → List Row
  rows skip why none at entry opinion state = []
  rows (suc skip) why (line rule rest) at entry opinion state =
      row_of at rule why ∷ rows skip why rest (at + 1) entry opinion state
  rows (suc skip) why (sub inner rest) at entry opinion state =
      rows_over why at inner ++ rows skip why rest (at + lines_in inner) entry opinion state
  rows zero why (line rule rest) at entry opinion state =
      let served = serve rule at state in
      let action = action_at rule.control served.deciding in
      let new = acted kind action served.answer served.deciding entry opinion in
      let last = new_or_overrun action (count rest) new in
      let next = next_of action (count rest) new in
      if served.stopped then row_of at rule Waits ∷ rows_over Unreached (at + 1) rest
      else row_of at rule (Ran served.answer served.deciding action last)
      ∷ rows (skip_of next (count rest)) (why_by next at) rest (at + 1) entry last served.state
  rows zero why (sub inner rest) at entry opinion state =
      let inside = walk kind serve zero inner at opinion opinion state in
      rows zero why inner at opinion opinion state
      ++ (if inside.stopped then rows_over Unreached (at + lines_in inner) rest
      else rows zero why rest (at + lines_in inner) entry inside.opinion inside.state)

  -- what is left of the rows after a line: none of them was reached if the walk waits there
  abbrev pub rows_after : Stack → ℕ → Opinion → Option Turn → State → List Row
  rows_after rest at entry None state = rows_over Unreached at rest
  rows_after rest at entry (Some turn) state =
      rows turn.skip turn.why rest at entry turn.opinion state

-- the rows of a run of a stack, after the codes of its earlier calls, whose lines return what a
-- report has for them
abbrev pub pass_rows : PassKind → KeptAnswers → Stack → List Code → Telling → List Row
pass_rows kind kept stack past told =
    rows kind (serving kind kept replaying) 0 Waits stack 1 opening opening
    (pass_state past [] told)
