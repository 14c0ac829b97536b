-- What happens to a count of failures, and to a source's count of reads at its end (this project's
-- own).
pub use Rattle.pam_base.specs.Counts.{next_count, Rose, fails_next}
use Rattle.std.specs.Prelude.{◌≡◌, ℕ, ◌==◌, if◌then◌else◌, Bool, true, false}

-- a count that rises with a failure, and stays as it is without one
abbrev pub RisesIf : Bool → ℕ → ℕ → Type 0
RisesIf true before now = Rose before now
RisesIf false before now = now ≡ before

-- a count of reads at the end, after one more read with n bytes left
abbrev pub next_at_end : ℕ → ℕ → ℕ
next_at_end count left = if left == 0 then next_count count else count
