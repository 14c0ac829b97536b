use Rattle.std.proofs.Common.{◌≡◌, ◌≤◌, ◌-◌, map, length}
use Rattle.std.specs.Prelude.{replicate}
use Rattle.session_audit.specs.Checked.{place_of}
use Rattle.session_audit.specs.Fits.{shut}
use Rattle.session_audit.proofs.places.closed_places.Given as goal

abbrev pub invariant-loop-places : goal.invariant-loop-places
invariant-loop-places l = record {
  closed : map place_of l.places.items ≡ replicate (length l.places.items) shut;
  within : length l.places.items ≤ 16;
}

abbrev pub decreases-loop-places : goal.decreases-loop-places
decreases-loop-places l = 16 - length l.places.items
