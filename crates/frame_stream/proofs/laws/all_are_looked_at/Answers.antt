use Rattle.frame_stream.proofs.SpelledStepFacts.{all_looked}
use Rattle.frame_stream.proofs.laws.all_are_looked_at.Goals as goal

pub returns : goal.returns
returns c = all_looked c.first_frame_settles.ensures
