use Rattle.std.proofs.Common.{◌≡◌, ◌<◌, ◌≤◌, ◌+◌, ℕ}
use Rattle.dispatch_core.specs.EntryStates.{entry_at}
use Rattle.dispatch_core.proofs.entry_states.enter_lists.Given as goal

abbrev pub invariant-loop-k : goal.invariant-loop-k
invariant-loop-k l = record {
  set : (n : ℕ) → l.level < n + l.opens → n < l.k → entry_at l.opinions n ≡ l.opinion;
  below : (n : ℕ) → n + l.opens ≤ l.level → entry_at l.opinions n ≡ entry_at l.fn.opinions n;
  above : (n : ℕ) → l.k ≤ n → entry_at l.opinions n ≡ entry_at l.fn.opinions n;
}
