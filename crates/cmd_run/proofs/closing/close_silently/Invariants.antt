use Rattle.std.proofs.Common.{◌≡◌}
use Rattle.cmd_run.specs.Ends.{IsStatusOf}
use Rattle.cmd_run.specs.Closings.{all_closed, open_count}
use Rattle.cmd_run.specs.Seen.{SessionSeen, Went, state}
use Rattle.report_step.specs.pam_library.specs.contracts.session.SessionTold.TheImpl as session_told
use Rattle.cmd_run.proofs.closing.close_silently.Given as goal

abbrev pub invariant-loop-number : goal.invariant-loop-number
invariant-loop-number g l =
    let start : SessionSeen = (session_told.ghosts g.dyn-3 g.dyn-4 g.dyn-5 g.dyn-6 g.dyn-1 g.dyn-2).seen l.fn.library l.fn.world in
    let now : SessionSeen = (session_told.ghosts g.dyn-3 g.dyn-4 g.dyn-5 g.dyn-6 g.dyn-1 g.dyn-2).seen l.library l.world in
    record {
      went : Went (IsStatusOf l.status) start now;
      left : all_closed start.players l.status (state start) ≡ all_closed start.players l.status (state now);
    }

abbrev pub decreases-loop-number : goal.decreases-loop-number
decreases-loop-number g l = open_count ((session_told.ghosts g.dyn-3 g.dyn-4 g.dyn-5 g.dyn-6 g.dyn-1 g.dyn-2).seen l.library l.world).slots
