use Rattle.std.proofs.Common.{◌≡◌, ◌++◌, length}
use Rattle.std.specs.Option.{option_map}
use Rattle.mod_history.specs.History.{all_in, remembered_in}
use Rattle.mod_history.proofs.history.read_lines.Given as goal

abbrev pub invariant-loop-line : goal.invariant-loop-line
invariant-loop-line l = option_map (λ more. l.history ++ more) (all_in remembered_in l.lines) ≡ all_in remembered_in l.fn.lines

abbrev pub decreases-loop-line : goal.decreases-loop-line
decreases-loop-line l = length l.lines
