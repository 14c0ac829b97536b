use Rattle.pam_wire.proofs.Lawful.{one_reading}
use Rattle.pam_wire.proofs.laws.steps_are_those_of_the_bytes.Goals as goal

pub returns : goal.returns
returns c = one_reading
