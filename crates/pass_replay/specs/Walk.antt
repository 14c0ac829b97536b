-- A walk over lines that return what is recorded for them (this project's own).
use Rattle.std.specs.Prelude.{◌≡◌, ℕ, List, drop, Option, Some, None}
use Rattle.pam_base.specs.declared.code.Code.{Code}
use Rattle.control_words.specs.Stack.{Stack}
use Rattle.handler_chain.specs.declared.opinion.Opinion.{Opinion}
use Rattle.handler_chain.specs.declared.pass_kind.PassKind.{PassKind}
use Rattle.handler_chain.specs.declared.seen.RecordedLine.{RecordedLine}
use Rattle.handler_chain.specs.Walk.{Next, after, stop, Serving, Walked, walk, walked, halted}
use Rattle.handler_chain.specs.Retell.{Telling}
use Rattle.handler_chain.specs.Pass.{PassState, pass_state}
use Rattle.pass_replay.specs.declared.next_node.NextNode.{NextNode}
use Rattle.pass_replay.specs.declared.replay.Replay.{Replay}
use Rattle.pass_replay.specs.Kept.{visits_of}
use Rattle.pass_replay.specs.Told.{telling_from}

-- how far a pass has got, by the codes of its earlier calls and the recorded lines
abbrev pub state_in : List Code → List (Option RecordedLine) → Replay → PassState Telling
state_in past told r = pass_state (drop r.used past) (visits_of r.visits) (telling_from told r.next r.astray)

-- how many of the n nodes that are left are skipped where their list goes on; all of them if it
-- ends
abbrev pub skip_of : Next → ℕ → ℕ
skip_of (after n) left = n
skip_of stop left = left

-- what is left of a walk after a line: it goes on, or None if it is incomplete there
abbrev pub after_line : {State : Type 0} → PassKind → Serving State → Stack → ℕ → Opinion → Opinion → Option NextNode → State → Walked State
after_line kind serve rest at entry opinion None state = halted opinion state
after_line kind serve rest at entry opinion (Some onward) state = walk kind serve onward.skip rest at entry onward.opinion state

-- a walk ended in this state and with this replay, or is incomplete at this replay
abbrev pub WalkEnds : {State : Type 0} → Walked State → Option Opinion → State → Type 0
WalkEnds w (Some opinion) state = w ≡ walked opinion state
WalkEnds w None state = w ≡ halted w.opinion state
