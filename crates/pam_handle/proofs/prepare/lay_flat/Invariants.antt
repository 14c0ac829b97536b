use Rattle.std.proofs.Common.{◌≡◌, drop}
use Rattle.dispatch_core.specs.service_load.specs.Trees.{stacks_of_trees}
use Rattle.dispatch_core.specs.service_load.proofs.FourStackFacts.{filled}
use Rattle.pam_handle.specs.Plain.{stacks_in}
use Rattle.pam_handle.proofs.FlatStackFacts.{stack_in}
use Rattle.pam_handle.proofs.prepare.lay_flat.Given as goal

abbrev pub invariant-loop-rule_type : goal.invariant-loop-rule_type
invariant-loop-rule_type l = record {
  filling : filled (stack_in l.trees) (drop l.rule_type-index l.rule_type-items) (stacks_in l.chains) ≡ stacks_of_trees l.trees;
  names : l.chains.by_type.auth.names ≡ l.names;
}
