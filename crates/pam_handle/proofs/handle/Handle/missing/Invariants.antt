use Rattle.std.proofs.Common.{◌≡◌, ◌++◌, drop}
use Rattle.pam_handle.specs.Items.{missing_from}
use Rattle.pam_handle.specs.Plain.{nodes_in, stacks_in}
use Rattle.pam_handle.proofs.MissingModuleFacts.{missing_under}
use Rattle.pam_handle.proofs.handle.Handle.missing.Given as goal

abbrev pub invariant-loop-rule_type : goal.invariant-loop-rule_type
invariant-loop-rule_type g l =
    l.names ++ missing_under l.self.chains.by_type.auth.names (nodes_in l.self.chains) (drop l.rule_type-index l.rule_type-items)
    ≡ missing_from l.self.chains.by_type.auth.names (stacks_in l.self.chains)
