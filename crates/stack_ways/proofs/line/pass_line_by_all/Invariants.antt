use Rattle.std.proofs.Common.{take, []}
use Rattle.stack_ways.specs.LineCodes.{counts_in, possible_in}
use Rattle.stack_ways.specs.Steps.{LineStep, plain_line}
use Rattle.stack_ways.specs.Ways.{Each, Gained}
use Rattle.stack_ways.proofs.line.pass_line_by_all.Given as goal

abbrev pub invariant-loop-way : goal.invariant-loop-way
invariant-loop-way l =
    Gained (Each (LineStep (possible_in l.assumed) (counts_in l.assumed) (plain_line l.at)) (take l.way-index l.ways)) [] l.next
