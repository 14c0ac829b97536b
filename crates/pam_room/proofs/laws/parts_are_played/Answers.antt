use Rattle.pam_room.proofs.Parts.{parts_played}
use Rattle.pam_room.proofs.laws.parts_are_played.Goals as goal

pub returns : goal.returns
returns c = parts_played
