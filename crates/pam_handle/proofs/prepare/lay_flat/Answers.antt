use Rattle.std.proofs.Common.{ap, ◌∙◌}
use Rattle.dispatch_core.specs.control_words.specs.declared.nodes.Nodes.{Nodes}
use Rattle.dispatch_core.specs.control_words.specs.Stack.{stack_of}
use Rattle.dispatch_core.specs.handler_chain.specs.Chain.{ChainView}
use Rattle.dispatch_core.specs.service_load.specs.declared.rule_type.RuleType.TheVariants.{Auth}
use Rattle.pam_handle.proofs.FlatStackFacts.{laid_next}
use Rattle.pam_handle.proofs.prepare.lay_flat.Goals as goal

pub loop-rule_type-preserved : goal.loop-rule_type-preserved
loop-rule_type-preserved c =
    let inv = c.loop-rule_type.invariant in
    record {
      filling = laid_next c.args.trees.now _ _ c.in_ok-chain.chain.nodes c.loop-rule_type.rule_type-index Auth c.loop-rule_type-test.true inv.filling
          (ap (λ (chain : ChainView). chain.nodes) c.in_ok-chain.ensures ∙ ap (λ (nodes : Nodes). stack_of nodes.vec.items) c.of.ensures) c.put.ensures.stacks;
      names = c.put.ensures.names ∙ inv.names;
    }
