use Rattle.pam_room.proofs.SameFilesFacts.{files_same}
use Rattle.pam_room.proofs.laws.files_stay.Goals as goal

pub returns : goal.returns
returns c = files_same
