use Rattle.pam_base.proofs.BytePositionFacts.{is_first_place}
use Rattle.pam_base.proofs.bytes.first_place.Goals as goal

pub returns : goal.returns
returns c = is_first_place _ _ _ c.position_of.ensures
