use Rattle.pam_room.proofs.SetDataFacts.{set_more}
use Rattle.pam_room.proofs.laws.setting_goes_on.Goals as goal

pub returns : goal.returns
returns c = set_more
