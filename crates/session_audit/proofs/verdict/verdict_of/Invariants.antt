use Rattle.std.proofs.Common.{◌≡◌, ◌≤◌, ◌+◌, ◌^◌, length}
use Rattle.pass_replay.specs.Retold.{stacks_in}
use Rattle.session_audit.specs.Checked.{IsAfter, bare_lines, differs_at}
use Rattle.session_audit.specs.Differs.{differs}
use Rattle.session_audit.proofs.verdict.verdict_of.Given as goal

abbrev pub invariant-loop-n : goal.invariant-loop-n
invariant-loop-n l = record {
  is_after : IsAfter l.checker l.checker.lines;
  left : differs_at (stacks_in l.trees) l.checker (bare_lines l.rest) ≡ differs (stacks_in l.trees) (bare_lines l.text);
  room : l.checker.lines + length l.rest ≤ 2 ^ 20;
}

abbrev pub decreases-loop-n : goal.decreases-loop-n
decreases-loop-n l = length l.rest
