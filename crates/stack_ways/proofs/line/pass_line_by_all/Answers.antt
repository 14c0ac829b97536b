use Rattle.stack_ways.specs.LineCodes.{counts_in, possible_in}
use Rattle.stack_ways.specs.Steps.{LineStep, plain_line}
use Rattle.stack_ways.proofs.WayListFacts.{each_more, each_all}
use Rattle.stack_ways.proofs.line.pass_line_by_all.Goals as goal

pub loop-way-preserved : goal.loop-way-preserved
loop-way-preserved c =
    each_more (LineStep (possible_in c.args.assumed.now) (counts_in c.args.assumed.now) (plain_line c.args.at.now))
    _ _ c.way-item.result _ _ _ c.loop-way-test.true c.way-item.is c.loop-way.invariant c.in_ok-pass_line.ensures

pub returns : goal.returns
returns c = each_all _ _ _ _ _ c.loop-way-test.false c.loop-way.invariant
