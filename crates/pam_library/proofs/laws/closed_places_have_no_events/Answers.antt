use Rattle.pam_library.proofs.SlotChangeFacts.{closed_are_sound, closed_have_no_events}
use Rattle.pam_library.proofs.laws.closed_places_have_no_events.Goals as goal

pub returns-clause-sound : goal.returns-clause-sound
returns-clause-sound c = closed_are_sound c.growth_holds.ensures c.nothing_grows.ensures c.nothing_is_held.ensures

pub returns-clause-stand : goal.returns-clause-stand
returns-clause-stand c = closed_have_no_events c.nothing_moves.ensures c.nothing_has_no_events.ensures
