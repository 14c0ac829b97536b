-- Counts of calls and of failures (this project's own). Both have 64 bits, and stop at their maximum.
use Rattle.std.specs.Prelude.{ℕ, ◌+◌, ◌-◌, ◌≤◌, ◌^◌, min, Bool, List, nat_lt, nat_eq, ◌&&◌}
use Rattle.std.specs.List.{list_any}

-- a count after one more
abbrev pub next_count : ℕ → ℕ
next_count n = min (n + 1) (2 ^ 64 - 1)

-- a count that rose
abbrev pub Rose : ℕ → ℕ → Type 0
Rose before now = next_count before ≤ now

-- whether the call after n is among those planned to fail, which are numbered from 1; at the maximum of the count, no
-- further call is
abbrev pub fails_next : ℕ → List ℕ → Bool
fails_next calls fails = nat_lt calls (2 ^ 64 - 1) && list_any (λ n. nat_eq n (calls + 1)) fails
