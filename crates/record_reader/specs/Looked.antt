-- Which lines of a script are looked at, of the bytes that were taken so far.
use Rattle.std.specs.Prelude.{◌⊎◌, ℕ, ◌+◌, ◌≤◌, ◌<◌, Bool, List, [], ◌∷◌, ◌++◌, length, ◌||◌, if◌then◌else◌, nat_le, nat_lt}
use Rattle.pam_base.specs.Lines.{cut}

-- The maximum number of bytes of a line that are held without its newline: 512 of the line, and a
-- carriage return.
abbrev pub held_limit : ℕ
held_limit = 513

-- What follows the last newline is a line when the input has ended; before that only if it is one
-- line too many, or if more than `held_limit` bytes of it were read. `n` is the number of lines
-- before it.
unfoldable pub last_looked : ℕ → List ℕ → Bool → List (List ℕ)
last_looked n [] ended = []
last_looked n (b ∷ bs) ended = if ended || nat_le 65536 n || nat_lt held_limit (length (b ∷ bs))
    then (b ∷ bs) ∷ [] else []

-- the lines among some bytes after n lines
unfoldable pub looked : ℕ → List ℕ → Bool → List (List ℕ)
looked n bytes ended = (cut bytes).lines
    ++ last_looked (n + length (cut bytes).lines) (cut bytes).rest ended

-- a line that is one too many, or too long, whatever it ends with
abbrev pub IsOver : ℕ → List ℕ → Type 0
IsOver n line = (65536 ≤ n) ⊎ (held_limit < length line)
