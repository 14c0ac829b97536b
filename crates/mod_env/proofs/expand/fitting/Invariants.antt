use Rattle.std.proofs.Common.{◌≡◌, ◌≤◌, ◌++◌, length}
use Rattle.mod_env.specs.Expand.{expanded, plain_sources}
use Rattle.mod_env.proofs.expand.fitting.Given as goal

abbrev pub invariant-loop-rest : goal.invariant-loop-rest
invariant-loop-rest l = record {
  so_far : l.text.items ++ expanded (plain_sources l.from) l.rest ≡ expanded (plain_sources l.from) l.value;
  fits : length l.text.items ≤ 1024;
}

abbrev pub decreases-loop-rest : goal.decreases-loop-rest
decreases-loop-rest l = length l.rest
