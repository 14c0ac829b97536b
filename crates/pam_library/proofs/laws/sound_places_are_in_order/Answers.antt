use Rattle.pam_library.proofs.SlotOrderFacts.{closed_in_order, sound_in_order}
use Rattle.pam_library.proofs.laws.sound_places_are_in_order.Goals as goal

pub returns-clause-sound : goal.returns-clause-sound
returns-clause-sound c = sound_in_order

pub returns-clause-closed : goal.returns-clause-closed
returns-clause-closed c = closed_in_order
