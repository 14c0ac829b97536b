use Rattle.std.proofs.Common.{◌≡◌, ◌-◌, length, true}
use Rattle.record_reader.proofs.Taken.{IsFinding}
use Rattle.record_reader.proofs.reader.Reader.find.Given as goal

abbrev pub invariant-loop-length : goal.invariant-loop-length
invariant-loop-length g l = record {
  tells : g.S.Source.source_tells l.source ≡ g.S.Source.source_tells l.fn.source;
  told : g.S.Source.source_tells l.fn.source ≡ true
      → IsFinding g.R.Stepping.looked l.before l.fn.self l.self (g.S.Source.source_holds l.fn.source) (g.S.Source.source_holds l.source);
  faults : g.S.Source.source_faults l.source ≡ g.S.Source.source_faults l.fn.source;
}

abbrev pub decreases-loop-length : goal.decreases-loop-length
decreases-loop-length g l = 582 - length l.self
