use Rattle.example_hall.proofs.EmptyHallFacts.{fewer_are_open}
use Rattle.example_hall.proofs.close_all.Goals as goal

pub loop-number-smaller : goal.loop-number-smaller
loop-number-smaller g c = fewer_are_open _ _ _ _ _ _ c.in-Some._number (rw c.in-Some.is at c.close_one.ensures.closes)
