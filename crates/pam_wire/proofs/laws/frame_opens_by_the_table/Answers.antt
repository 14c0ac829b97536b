use Rattle.pam_wire.proofs.IncompleteFrameFacts.{front-open, open-front}
use Rattle.pam_wire.proofs.laws.frame_opens_by_the_table.Goals as goal

pub returns : goal.returns
returns c = λ rest. (front-open rest, open-front rest)
