-- What is left of a walk after a line (this project's own).
use Rattle.std.specs.Prelude.{ℕ, Option, Some, None}
use Rattle.control_words.specs.Stack.{Stack}
use Rattle.handler_chain.specs.declared.opinion.Opinion.{Opinion}
use Rattle.handler_chain.specs.declared.pass_kind.PassKind.{PassKind}
use Rattle.handler_chain.specs.Walk.{Serving, Walked, walk, halted}
use Rattle.explain_calls.specs.declared.turn.Turn.{Turn}

-- the walk goes on, or None if it waits there
abbrev pub after_turn : {State : Type 0} → PassKind → Serving State → Stack → ℕ → Opinion → Opinion → Option Turn → State → Walked State
after_turn kind serve rest at entry opinion None state = halted opinion state
after_turn kind serve rest at entry opinion (Some turn) state = walk kind serve turn.skip rest at entry turn.opinion state
