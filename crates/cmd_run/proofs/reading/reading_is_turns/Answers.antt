use Rattle.cmd_run.proofs.reading.reading_is_turns.Goals as goal

pub returns : goal.returns
returns g c = record {
  none_yet = c.first_turn.ensures.none_yet tt;
  no_memory = c.first_turn.ensures.no_memory tt;
  fault = c.nothing_found_is_a_turn.ensures.fault tt;
  end = c.nothing_found_is_a_turn.ensures.end tt;
  item = c.found_item_is_a_turn.ensures.item tt;
  rest = c.found_item_is_a_turn.ensures.rest tt;
  on = c.turns_go_on.ensures tt;
  run = c.turns_are_a_run.ensures tt;
}
