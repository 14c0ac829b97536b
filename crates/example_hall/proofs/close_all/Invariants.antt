use Rattle.example_hall.proofs.EmptyHallFacts.{open_count}
use Rattle.pam_library.specs.Seen.{IsSoundIn}
use Rattle.pam_library.specs.contracts.session.SessionTold.TheImpl as session_told
use Rattle.example_hall.proofs.close_all.Given as goal

abbrev pub invariant-loop-number : goal.invariant-loop-number
invariant-loop-number g l = IsSoundIn ((session_told.ghosts g.dyn-3 g.dyn-4 g.dyn-5 g.dyn-6 g.dyn-1 g.dyn-2).seen l.library l.world)

abbrev pub decreases-loop-number : goal.decreases-loop-number
decreases-loop-number g l = open_count ((session_told.ghosts g.dyn-3 g.dyn-4 g.dyn-5 g.dyn-6 g.dyn-1 g.dyn-2).seen l.library l.world).slots
