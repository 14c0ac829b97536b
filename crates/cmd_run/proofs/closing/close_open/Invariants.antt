use Rattle.std.proofs.Common.{◌≡◌, true}
use Rattle.cmd_run.specs.Ends.{IsStatusOf}
use Rattle.cmd_run.specs.Closings.{open_count}
use Rattle.cmd_run.specs.Seen.{SessionSeen, Went, state}
use Rattle.cmd_run.proofs.EndReportFacts.{ClosesSome}
use Rattle.report_step.specs.pam_library.specs.contracts.session.SessionTold.TheImpl as session_told
use Rattle.cmd_run.proofs.closing.close_open.Given as goal

abbrev pub invariant-loop-stop : goal.invariant-loop-stop
invariant-loop-stop g l =
    let start : SessionSeen = (session_told.ghosts g.dyn-3 g.dyn-4 g.dyn-5 g.dyn-6 g.dyn-1 g.dyn-2).seen l.fn.library l.fn.world in
    let now : SessionSeen = (session_told.ghosts g.dyn-3 g.dyn-4 g.dyn-5 g.dyn-6 g.dyn-1 g.dyn-2).seen l.library l.world in
    record {
      went : Went (IsStatusOf l.status) start now;
      sink_tells : g.K.Sink.sink_tells l.sink ≡ g.K.Sink.sink_tells l.fn.sink;
      told : g.K.Sink.sink_tells l.fn.sink ≡ true → ClosesSome g.P.Protocol.wrapped start.players l.status (state start) (state now)
          (g.K.Sink.sink_holds l.fn.sink) (g.K.Sink.sink_holds l.sink);
      faults : g.K.Sink.sink_faults l.sink ≡ g.K.Sink.sink_faults l.fn.sink;
    }

abbrev pub decreases-loop-stop : goal.decreases-loop-stop
decreases-loop-stop g l = open_count ((session_told.ghosts g.dyn-3 g.dyn-4 g.dyn-5 g.dyn-6 g.dyn-1 g.dyn-2).seen l.library l.world).slots
