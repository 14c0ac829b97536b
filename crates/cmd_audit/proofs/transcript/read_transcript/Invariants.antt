use Rattle.std.proofs.Common.{◌≡◌, ◌≤◌, ◌-◌, ◌+◌, ◌++◌, length, true}
use Rattle.std.specs.Vec.{vec_len}
use Rattle.cmd_audit.proofs.transcript.read_transcript.Given as goal

abbrev pub invariant-loop-piece : goal.invariant-loop-piece
invariant-loop-piece g l = record {
  within : vec_len l.text ≤ 1048577;
  tells : g.S.Source.source_tells l.source ≡ g.S.Source.source_tells l.fn.source;
  faults : g.S.Source.source_faults l.source ≡ g.S.Source.source_faults l.fn.source;
  taken : g.S.Source.source_tells l.fn.source ≡ true
      → (g.S.Source.source_holds l.fn.source).left ≡ l.text.items ++ (g.S.Source.source_holds l.source).left;
  calls : g.S.Source.source_tells l.fn.source ≡ true
      → (g.S.Source.source_holds l.source).calls ≤ (g.S.Source.source_holds l.fn.source).calls + length l.text.items;
  ends : g.S.Source.source_tells l.fn.source ≡ true
      → (g.S.Source.source_holds l.source).reads_at_end ≡ (g.S.Source.source_holds l.fn.source).reads_at_end;
}

abbrev pub decreases-loop-piece : goal.decreases-loop-piece
decreases-loop-piece g l = 1048577 - vec_len l.text
