use Rattle.std.proofs.Common.{◌≡◌, ◌≤◌, ◌-◌, ℕ, true, [], ◌++◌, None, Ok}
use Rattle.pam_base.specs.declared.code.Code.{Code}
use Rattle.record_reader.specs.Turns.{place}
use Rattle.cmd_run.specs.contracts.time.OptionBoxDynTimeOfDayTimeTold.TheImpl as time_told
use Rattle.cmd_run.specs.Asked.{IsEndAmong, LeadsOn}
use Rattle.cmd_run.specs.Events.{TellsTurn}
use Rattle.report_step.specs.dispatch_core.specs.Lines.{names_of}
use Rattle.cmd_run.specs.Made.{ReportsCalls}
use Rattle.cmd_run.specs.Reading.{ReadsTurn, WritesSome}
use Rattle.cmd_run.specs.Seen.{AllTell, SessionSeen, Went, setting_at, state}
use Rattle.cmd_run.specs.Time.{Timing}
use Rattle.report_step.specs.pam_library.specs.contracts.session.SessionTold.TheImpl as session_told
use Rattle.cmd_run.proofs.items.serve_items.Given as goal

abbrev pub invariant-loop-ending : goal.invariant-loop-ending
invariant-loop-ending g l =
    let start : SessionSeen = (session_told.ghosts g.dyn-4 g.dyn-5 g.dyn-6 g.dyn-7 g.dyn-2 g.dyn-3).seen l.fn.library l.fn.world in
    let now : SessionSeen = (session_told.ghosts g.dyn-4 g.dyn-5 g.dyn-6 g.dyn-7 g.dyn-2 g.dyn-3).seen l.library l.world in
    let timing : Timing = (time_told.ghosts g.dyn-1).timing l.fn.time in
    record {
      went : Went (IsEndAmong g.P.Protocol.looked g.P.Protocol.asked (g.S.Source.source_tells l.fn.source) 0
          (g.S.Source.source_holds l.fn.source).left) start now;
      sink_tells : g.K.Sink.sink_tells l.sink ≡ g.K.Sink.sink_tells l.fn.sink;
      source_tells : g.S.Source.source_tells l.source ≡ g.S.Source.source_tells l.fn.source;
      told : timing.tells ≡ true → (delay : Code → ℕ → ℕ) → start.gives delay → AllTell start
          → g.S.Source.source_tells l.fn.source ≡ true → g.K.Sink.sink_tells l.fn.sink ≡ true →
          TellsTurn g.P.Protocol.looked g.P.Protocol.asked g.P.Protocol.step g.P.Protocol.fails (setting_at timing.moments start delay) (Ok None)
          (place 0 (state start) [] (g.S.Source.source_holds l.fn.source) (g.K.Sink.sink_holds l.fn.sink))
          (place l.taken (state now) l.reader (g.S.Source.source_holds l.source) (g.K.Sink.sink_holds l.sink));
      reads : g.S.Source.source_tells l.fn.source ≡ true
          → ReadsTurn g.P.Protocol.looked g.P.Protocol.read_step (Ok None) 0 l.taken [] l.reader (g.S.Source.source_holds l.fn.source)
          (g.S.Source.source_holds l.source);
      writes : g.K.Sink.sink_tells l.fn.sink ≡ true → WritesSome {T = ℕ} (Ok 0) (g.K.Sink.sink_holds l.fn.sink) (g.K.Sink.sink_holds l.sink);
      made : g.K.Sink.sink_tells l.fn.sink ≡ true → ReportsCalls g.P.Protocol.wrapped (names_of start.players) {T = ℕ} (Ok 0) start.slots now.slots
          (g.K.Sink.sink_holds l.fn.sink) (g.K.Sink.sink_holds l.sink);
      few : l.taken ≤ 65536;
      source_faults : g.S.Source.source_faults l.source ≡ g.S.Source.source_faults l.fn.source;
      sink_faults : g.K.Sink.sink_faults l.sink ≡ g.K.Sink.sink_faults l.fn.sink;
      leads : g.S.Source.source_tells l.fn.source ≡ true
          → LeadsOn g.P.Protocol.looked g.P.Protocol.asked 0 (g.S.Source.source_holds l.fn.source).left l.taken
          (l.reader ++ (g.S.Source.source_holds l.source).left);
    }

abbrev pub decreases-loop-ending : goal.decreases-loop-ending
decreases-loop-ending g l = 65537 - l.taken
