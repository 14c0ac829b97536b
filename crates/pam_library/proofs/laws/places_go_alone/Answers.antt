use Rattle.pam_library.proofs.Neighbours.{slot_alone, outcomes_are}
use Rattle.pam_library.proofs.laws.places_go_alone.Goals as goal

pub returns-clause-slot : goal.returns-clause-slot
returns-clause-slot c = slot_alone

pub returns-clause-outcomes : goal.returns-clause-outcomes
returns-clause-outcomes c = outcomes_are
