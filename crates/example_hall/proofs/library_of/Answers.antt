use Rattle.example_hall.proofs.EmptyHallFacts.{sound_at_first}
use Rattle.example_hall.proofs.library_of.Goals as goal

pub returns : goal.returns
returns g c =
    sound_at_first _ c.args.convs.items _ _ _ _ (c.closed_places_have_no_events.ensures.sound _ _) c.requires.sixteen c.in_ok-library.ensures.slots c.requires.births c.requires.filed
