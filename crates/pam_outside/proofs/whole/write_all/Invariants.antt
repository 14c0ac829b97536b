use Rattle.std.proofs.Common.{◌≡◌, length, true}
use Rattle.pam_outside.proofs.Pieces.{IsWritten}
use Rattle.pam_outside.proofs.whole.write_all.Given as goal

abbrev pub invariant-loop-rest : goal.invariant-loop-rest
invariant-loop-rest g l = record {
  tells : g.K.Sink.sink_tells l.sink ≡ g.K.Sink.sink_tells l.fn.sink;
  written : g.K.Sink.sink_tells l.fn.sink ≡ true → IsWritten l.fn.text l.rest (g.K.Sink.sink_holds l.fn.sink) (g.K.Sink.sink_holds l.sink);
  faults : g.K.Sink.sink_faults l.sink ≡ g.K.Sink.sink_faults l.fn.sink;
}

abbrev pub decreases-loop-rest : goal.decreases-loop-rest
decreases-loop-rest g l = length l.rest
