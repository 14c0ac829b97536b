use Rattle.std.proofs.Common.{◌≡◌, ◌+◌, ◌-◌, ◌≤◌, length, drop}
use Rattle.conv_port.specs.Conv.{ready_replies}
use Rattle.conv_port.proofs.queue.are_ready.Given as goal

abbrev pub invariant-loop-ready : goal.invariant-loop-ready
invariant-loop-ready l = record {
  within : l.ready ≤ length l.offers.items;
  so_far : length (ready_replies l.offers.items) ≡ l.ready + length (ready_replies (drop l.ready l.offers.items));
}

abbrev pub decreases-loop-ready : goal.decreases-loop-ready
decreases-loop-ready l = length l.offers.items - l.ready
