use Rattle.std.proofs.Common.{rules}
use Rattle.service_print.specs.Controls.{same_control}
use Rattle.service_print.proofs.control.same_control.Goals as goal

pub returns : goal.returns
unfolding same_control
returns c = search rules
