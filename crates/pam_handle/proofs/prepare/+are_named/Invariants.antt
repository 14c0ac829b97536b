use Rattle.std.proofs.Common.{length}
use Rattle.pam_handle.proofs.prepare.+are_named.Given as goal

abbrev pub decreases-are_named : goal.decreases-are_named
decreases-are_named g l = length l.mods.now
