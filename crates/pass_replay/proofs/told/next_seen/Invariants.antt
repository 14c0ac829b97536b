use Rattle.std.proofs.Common.{◌≡◌, ◌-◌, drop, length}
use Rattle.pass_replay.specs.Told.{visits_in}
use Rattle.pass_replay.proofs.told.next_seen.Given as goal

abbrev pub invariant-loop-line : goal.invariant-loop-line
invariant-loop-line l = visits_in (drop l.next l.told) ≡ visits_in (drop l.fn.from l.told)

abbrev pub decreases-loop-line : goal.decreases-loop-line
decreases-loop-line l = length l.told - l.next
