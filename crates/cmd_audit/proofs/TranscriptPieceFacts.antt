-- A transcript that is taken piece by piece.
use Rattle.std.proofs.Common.{◌≡◌, ℕ, ◌+◌, ◌≤◌, List, ◌++◌, length, Option, Result, sym, ap, ◌∙◌, append_assoc, length-append, arith}
use Rattle.pam_base.specs.declared.fault.NoMemory.{NoMemory}
use Rattle.pam_outside.specs.Streams.{SourceState}
use Rattle.cmd_audit.specs.Transcript.{ReadsMore, Takes}

-- what was taken in pieces, none of them empty, and then by one more read
pub taken_more : (result : Result (Option ℕ) NoMemory) (text after : List ℕ) (start now next : SourceState) → start.left ≡ text ++ now.left
    → now.calls ≤ start.calls + length text → now.reads_at_end ≡ start.reads_at_end → ReadsMore result text after now next → Takes start next
taken_more result text after start now next left calls ends r = record {
  taken = text ++ r.got;
  parts = left ∙ ap (λ (l : List ℕ). text ++ l) r.source ∙ sym (append_assoc text r.got next.left);
  few = omega (arith, r.room, length-append text r.got);
  reads = omega (arith, calls, r.calls, length-append text r.got);
  ends = omega (arith, ends, r.at_end);
}

pub taken_all : (text : List ℕ) (start now : SourceState) → start.left ≡ text ++ now.left → now.calls ≤ start.calls + length text
    → now.reads_at_end ≡ start.reads_at_end → length text ≤ 1048577 → Takes start now
taken_all text start now left calls ends few = record {
  taken = text;
  parts = left;
  few = few;
  reads = omega (arith, calls);
  ends = omega (arith, ends);
}
