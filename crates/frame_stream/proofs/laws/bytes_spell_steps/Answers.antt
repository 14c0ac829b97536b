use Rattle.frame_stream.proofs.SpelledStepFacts.{bytes_spell}
use Rattle.frame_stream.proofs.laws.bytes_spell_steps.Goals as goal

pub returns : goal.returns
returns c = bytes_spell c.first_frame_settles.ensures c.frame_is_read.ensures c.frame_opens_by_the_table.ensures
