use Rattle.std.proofs.Common.{◌≡◌, ◌++◌, length}
use Rattle.std.specs.Option.{option_map}
use Rattle.mod_tally.specs.Tally.{all_in, failure_in}
use Rattle.mod_tally.proofs.tally.read_lines.Given as goal

abbrev pub invariant-loop-line : goal.invariant-loop-line
invariant-loop-line l = option_map (λ more. l.failures ++ more) (all_in (failure_in l.version) l.lines) ≡ all_in (failure_in l.version) l.fn.lines

abbrev pub decreases-loop-line : goal.decreases-loop-line
decreases-loop-line l = length l.lines
