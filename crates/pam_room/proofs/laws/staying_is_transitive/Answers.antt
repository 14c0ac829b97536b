use Rattle.pam_room.proofs.Parts.{stays_on}
use Rattle.pam_room.proofs.laws.staying_is_transitive.Goals as goal

pub returns : goal.returns
returns c = stays_on
