use Rattle.pam_room.proofs.SetDataFacts.{set_none}
use Rattle.pam_room.proofs.laws.nothing_is_set.Goals as goal

pub returns : goal.returns
returns c = set_none
