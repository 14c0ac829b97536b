use Rattle.dispatch_core.specs.service_load.specs.declared.rule_type.RuleType.TheVariants.{Auth}
use Rattle.pam_handle.specs.Plain.{nodes_in}
use Rattle.pam_handle.proofs.MissingModuleFacts.{under_next, under_none}
use Rattle.pam_handle.proofs.handle.Handle.missing.Goals as goal

pub loop-rule_type-preserved : goal.loop-rule_type-preserved
loop-rule_type-preserved g c =
    under_next c.args.self.now.chains.by_type.auth.names (nodes_in c.args.self.now.chains) c.loop-rule_type.rule_type-index Auth _ _ _ c.loop-rule_type-test.true c.loop-rule_type.invariant
    (rw (c.of.ensures.names, c.of.ensures.nodes) at c.in_ok-add_missing.ensures)

pub returns : goal.returns
returns g c = under_none _ (nodes_in c.args.self.now.chains) c.loop-rule_type.rule_type-index _ _ c.loop-rule_type-test.false c.loop-rule_type.invariant
