use Rattle.std.proofs.Common.{◌≡◌, ◌+◌, ◌-◌, ℕ, length}
use Rattle.pass_replay.specs.Kept.{answers_in}
use Rattle.pass_replay.proofs.answers.make_room.Given as goal

abbrev pub invariant-loop-cells : goal.invariant-loop-cells
invariant-loop-cells l = (other : ℕ) → answers_in l.cells.items other ≡ answers_in l.fn.cells.items other

abbrev pub decreases-loop-cells : goal.decreases-loop-cells
decreases-loop-cells l = l.place + 1 - length l.cells.items
