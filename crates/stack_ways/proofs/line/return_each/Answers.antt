use Rattle.stack_ways.specs.LineCodes.{counts_in, possible_in}
use Rattle.stack_ways.specs.Steps.{ByCode, plain_line}
use Rattle.pam_base.specs.declared.code.Code.TheVariants as codes
use Rattle.stack_ways.proofs.WayListFacts.{each_more_at, each_all}
use Rattle.stack_ways.proofs.line.return_each.Goals as goal

pub loop-code-preserved : goal.loop-code-preserved
loop-code-preserved c =
    each_more_at (ByCode (possible_in c.args.assumed.now) (counts_in c.args.assumed.now) (plain_line c.args.at.now) c.args.way.now)
    c.args.codes.now c.loop-code.code-index codes.Success _ _ _ c.loop-code-test.true c.loop-code.invariant c.in_ok-return_one.ensures

pub returns : goal.returns
returns c = each_all _ _ _ _ _ c.loop-code-test.false c.loop-code.invariant
