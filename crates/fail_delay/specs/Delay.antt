-- The delay that is requested, pam_fail_delay(3): the longest of the requests, varied at random.
-- The bounds, and how far and by which word it is varied, are this project's own.
use Rattle.std.specs.Prelude.{ℕ, ◌+◌, ◌-◌, ◌*◌, ◌/◌, ◌%◌, List, [], ◌∷◌, max, min, nat_le, ◌==◌, if◌then◌else◌}

-- a request counts as at most 60 seconds, in microseconds
abbrev pub counted_request : ℕ → ℕ
counted_request micros = min micros 60000000

-- the longest of some requests, or 0 without one
abbrev pub longest_of : List ℕ → ℕ
longest_of [] = 0
longest_of (micros ∷ requests) = max (counted_request micros) (longest_of requests)

-- a longest request varied by a random word: the remainders up to its half lengthen it, the others
-- shorten it
abbrev pub spread : ℕ → ℕ → ℕ → ℕ
spread longest half remainder = if nat_le remainder half then longest + remainder
    else longest - (remainder - half)

-- the delay that is asked for
abbrev pub asked_delay : ℕ → ℕ → ℕ
asked_delay longest word = if longest == 0 then 0
    else spread longest (longest / 2) (word % (2 * (longest / 2) + 1))
