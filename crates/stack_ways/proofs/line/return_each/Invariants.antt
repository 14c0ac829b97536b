use Rattle.std.proofs.Common.{take}
use Rattle.stack_ways.specs.LineCodes.{counts_in, possible_in}
use Rattle.stack_ways.specs.Steps.{ByCode, plain_line}
use Rattle.stack_ways.specs.Ways.{Each, Gained}
use Rattle.stack_ways.proofs.line.return_each.Given as goal

abbrev pub invariant-loop-code : goal.invariant-loop-code
invariant-loop-code l =
    Gained (Each (ByCode (possible_in l.assumed) (counts_in l.assumed) (plain_line l.at) l.way) (take l.code-index l.codes)) l.fn.next l.next
