use Rattle.std.proofs.Common.{◌∙◌}
use Rattle.service_load.specs.declared.rule_type.RuleType.TheVariants.{Auth}
use Rattle.service_print.specs.Printed.{stacks_in}
use Rattle.service_print.proofs.FourStacks.{printing_done, printing_next}
use Rattle.service_print.proofs.printing.print.Goals as goal

pub loop-rule_type-preserved : goal.loop-rule_type-preserved
loop-rule_type-preserved c =
    printing_next (stacks_in c.args.trees.now) c.args.service.now c.loop-rule_type.rule_type-index Auth _ _ _ _ c.loop-rule_type-test.true c.loop-rule_type.invariant (rw c.of-nodes.ensures at c.in_ok-add_nodes.ensures.lines) (rw c.of-nodes.ensures at c.in_ok-add_nodes.ensures.files)

pub returns : goal.returns
returns c =
    c.from_vec.ensures
    ∙ c.fill.ensures
    ∙ printing_done (stacks_in c.args.trees.now) c.args.service.now c.loop-rule_type.rule_type-index _ _ _ c.loop-rule_type-test.false c.loop-rule_type.invariant c.in_ok-from_slice.ensures.items
