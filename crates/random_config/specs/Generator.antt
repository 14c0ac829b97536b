-- The random numbers of a seed, by a linear congruential generator modulo 2^32 (this project's
-- own).
use Rattle.std.specs.Prelude.{ℕ, zero, suc, ◌+◌, ◌*◌, ◌^◌, ◌/◌, ◌%◌}

abbrev pub next_state : ℕ → ℕ
next_state x = (1103515245 * x + 12345) % 2 ^ 32

-- the state of the generator after n numbers
abbrev pub state_after : ℕ → ℕ → ℕ
state_after seed zero = seed
state_after seed (suc n) = next_state (state_after seed n)

-- the number after n others
abbrev pub random_number : ℕ → ℕ → ℕ
random_number seed n = state_after seed (n + 1) / 65536
