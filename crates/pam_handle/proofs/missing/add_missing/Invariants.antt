use Rattle.std.proofs.Common.{◌≡◌, ◌++◌, drop}
use Rattle.dispatch_core.specs.handler_chain.specs.FlatLines.{flat_lines}
use Rattle.pam_handle.specs.Items.{missing_in}
use Rattle.pam_handle.proofs.MissingModuleFacts.{missing_lines}
use Rattle.pam_handle.proofs.missing.add_missing.Given as goal

abbrev pub invariant-loop-i : goal.invariant-loop-i
invariant-loop-i l = l.names ++ missing_lines l.chain.names (drop l.i (flat_lines 0 0 l.chain.nodes)) ≡ l.fn.names ++ missing_in l.chain.names l.chain.nodes
