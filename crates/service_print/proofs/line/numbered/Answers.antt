use Rattle.std.proofs.Common.{rules}
use Rattle.service_print.specs.Printed.{numbered}
use Rattle.service_print.proofs.line.numbered.Goals as goal

pub returns : goal.returns
unfolding numbered
returns c = search rules
