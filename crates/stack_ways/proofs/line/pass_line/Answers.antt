use Rattle.std.proofs.Common.{◌≡◌, arith}
use Rattle.stack_ways.specs.LineCodes.{counts_in, possible_in}
use Rattle.stack_ways.specs.Steps.{plain_line}
use Rattle.stack_ways.proofs.GainedWayFacts.{gained_line_skip, gained_line}
use Rattle.stack_ways.proofs.line.pass_line.Goals as goal

pub returns-in_ok-skip_node : goal.returns-in_ok-skip_node
returns-in_ok-skip_node c = gained_line_skip _ _ _ _ _ _ c.if-way-gt0.true c.in_ok-skip_node.ensures

pub returns-in_ok-return_each : goal.returns-in_ok-return_each
returns-in_ok-return_each c =
    let none : c.args.way.now.skip ≡ 0 = omega arith in
    gained_line (possible_in c.args.assumed.now) (counts_in c.args.assumed.now) (plain_line c.args.at.now)
    c.args.way.now c.args.next.now c.return_each.new.next
    none c.in_ok-return_each.ensures
