use Rattle.std.proofs.Common.{rules}
use Rattle.service_print.specs.Printed.{substack_line}
use Rattle.service_print.proofs.line.substack_line.Goals as goal

pub returns : goal.returns
unfolding substack_line
returns c = search rules
