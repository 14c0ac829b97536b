use Rattle.frame_stream.proofs.FirstFrameFacts.{steps_looked}
use Rattle.frame_stream.proofs.laws.steps_are_looked_at.Goals as goal

pub returns : goal.returns
returns c = steps_looked c.first_frame_settles.ensures c.frame_is_read.ensures
