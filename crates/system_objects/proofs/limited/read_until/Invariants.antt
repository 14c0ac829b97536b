use Rattle.std.proofs.Common.{◌≡◌, ◌≤◌, ◌-◌}
use Rattle.std.specs.Io.KnownBytes.{Consumes}
use Rattle.std.specs.Vec.{vec_len}
use Rattle.system_objects.proofs.limited.read_until.Given as goal

abbrev pub invariant-loop-size : goal.invariant-loop-size
invariant-loop-size g l = record {
  within : vec_len l.bytes ≤ l.most;
  faults : l.source.faults ≡ l.fn.source.faults;
  taken : Consumes (g.F.Read.remaining l.fn.source.inner) (g.F.Read.remaining l.source.inner) l.bytes.items;
}

abbrev pub decreases-loop-size : goal.decreases-loop-size
decreases-loop-size g l = l.most - vec_len l.bytes
