use Rattle.pam_library.proofs.CallEventFacts.{stand_for_calls}
use Rattle.pam_library.proofs.laws.calls_add_their_events.Goals as goal

pub returns : goal.returns
returns c = stand_for_calls
