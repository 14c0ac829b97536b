-- The walk by index: over the lines of a stack in written order, with the states at the entries of lists by level.
use Rattle.std.specs.Prelude.{◌≡◌, ℕ, zero, suc, ◌+◌, if◌then◌else◌, List, [], ◌∷◌, drop}
use Rattle.pam_base.specs.declared.code.Code.{Code}
use Rattle.control_words.specs.declared.control.Action.{Action}
use Rattle.control_words.specs.Control.{action_at}
use Rattle.control_words.specs.Stack.{Stack, count}
use Rattle.handler_chain.specs.FlatLines.{FlatLine, flat_lines, lines_in_first}
use Rattle.handler_chain.specs.declared.opinion.Opinion.{Opinion}
use Rattle.handler_chain.specs.declared.pass_kind.PassKind.{PassKind}
use Rattle.handler_chain.specs.Opinion.{acted}
use Rattle.handler_chain.specs.Walk.{Serving, Walked, walked, halted, Next, after, stop, next_of, new_or_overrun}
use Rattle.dispatch_core.specs.declared.walker.Walker.{Walker}
use Rattle.dispatch_core.specs.EntryStates.{Entries, entry_at, entered}

-- how many of the nodes that are left after a line are skipped
abbrev pub passed : Next → ℕ → ℕ
passed (after n) left = n
passed stop left = left

module _ {State : Type 0} (kind : PassKind) (serve : Serving State) where
  -- the walk with the first n lines skipped
  abbrev pub run : List FlatLine → ℕ → ℕ → Entries → Opinion → State → Walked State
  run [] skip at entries opinion state = walked opinion state
  run (line ∷ lines) (suc skip) at entries opinion state =
      run lines skip (at + 1) entries opinion state
  run (line ∷ lines) zero at entries opinion state =
      let now = entered line.level line.opens opinion entries in
      let served = serve line.rule at state in
      let action = action_at line.rule.control served.deciding in
      let left = count line.rest in
      let new = acted kind action served.answer served.deciding (now line.level) opinion in
      if served.stopped then halted opinion served.state
      else run lines (lines_in_first (passed (next_of action left new) left) line.rest) (at + 1) now
      (new_or_overrun action left new) served.state

  -- the walk from an index on
  abbrev pub run_from : Stack → ℕ → Entries → Opinion → State → Walked State
  run_from stack i entries opinion state =
      run (drop i (flat_lines 0 0 stack)) 0 (i + 1) entries opinion state

  -- the walk from where a walker is
  abbrev pub walk_on : Stack → Walker → State → Walked State
  walk_on stack walker state =
      run_from stack walker.at (entry_at walker.entries) walker.opinion state

-- a line is at an index
abbrev pub IsLineAt : Stack → ℕ → FlatLine → Type 0
IsLineAt stack i line = drop i (flat_lines 0 0 stack) ≡ line ∷ drop (i + 1) (flat_lines 0 0 stack)

-- where a list goes on after its line of index i, of which `rest` is left
pub record LeadsTo (action : Action) (rest : Stack) (new : Opinion) (i : ℕ) (opinion : Opinion)
    (next : ℕ) : Type 0 where
  pub opinion_is : opinion ≡ new_or_overrun action (count rest) new
  pub next_is : next ≡ i + 1
      + lines_in_first (passed (next_of action (count rest) new) (count rest)) rest

-- the state after the action of a line
abbrev pub opinion_after : PassKind → FlatLine → Code → Code → Walker → Opinion
opinion_after kind line answer deciding walker =
    acted kind (action_at line.rule.control deciding) answer deciding
    (entered line.level line.opens walker.opinion (entry_at walker.entries) line.level)
    walker.opinion

-- a walker acts on its line, which has returned
pub record GoesOn (kind : PassKind) (line : FlatLine) (answer deciding : Code)
    (old new : Walker) : Type 0 where
  pub entries : (k : ℕ) → entry_at new.entries k
      ≡ entered line.level line.opens old.opinion (entry_at old.entries) k
  pub leads : LeadsTo (action_at line.rule.control deciding) line.rest
      (opinion_after kind line answer deciding old) old.at new.opinion new.at
