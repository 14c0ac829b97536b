use Rattle.std.proofs.Common.{refl}
use Rattle.cmd_all.proofs.RunStatusFacts.{both_right, none_open_at_first, sound_at_first, stand_at_first}
use Rattle.cmd_all.proofs.opening.library_of.Goals as goal

pub returns : goal.returns
returns g c = record {
  players = rw c.in_ok-library.ensures.gear refl;
  slots = c.in_ok-library.ensures.slots;
  tells = λ both. rw c.in_ok-library.ensures.tells (both_right _ _ both);
  gives = λ number given. rw c.in_ok-library.ensures.gear (c.new.ensures number given);
  none_open = none_open_at_first _ c.args.desk.convs.items _ c.in_ok-library.ensures.slots;
  sound = sound_at_first _ c.args.desk.convs.items _ _ _ _ (c.closed_places_have_no_events.ensures.sound _ _) c.requires.sixteen c.in_ok-library.ensures.slots
      c.requires.no_births c.requires.no_receipts;
  none_yet = stand_at_first _ _ c.args.desk.convs.items _ _ (c.closed_places_have_no_events.ensures.stand _) c.in_ok-library.ensures.slots c.requires.no_births
      c.requires.no_receipts;
}
