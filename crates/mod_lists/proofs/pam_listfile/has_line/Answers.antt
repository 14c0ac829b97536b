use Rattle.std.proofs.Common.{rules}
use Rattle.mod_lists.specs.Listfile.{is_listed}
use Rattle.mod_lists.proofs.pam_listfile.has_line.Goals as goal

pub loop-line-init : goal.loop-line-init
unfolding is_listed
loop-line-init c = search rules
