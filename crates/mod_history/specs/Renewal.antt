-- How a user's line of the history is renewed (pam_pwhistory(8)).
use Rattle.std.specs.Prelude.{ℕ, ◌-◌, Bool, false, ◌||◌, if◌then◌else◌, List, [], ◌∷◌, ◌++◌, length, drop, Option, Some, None}
use Rattle.std.specs.List.{find, last_or}
use Rattle.std.specs.Str.{bytes_eq}
use Rattle.mod_unix.specs.Verify.{is_locked}
use Rattle.mod_history.specs.declared.history.Remembered.{Remembered}

-- the last n of a list
abbrev pub last_of : ℕ → List (List ℕ) → List (List ℕ)
last_of count hashes = drop (length hashes - count) hashes

abbrev pub is_text : List ℕ → Option (List ℕ) → Bool
is_text hash None = false
is_text hash (Some other) = bytes_eq other hash

-- a hash isn't added if it is empty or locked, or is already the last
abbrev pub is_left_out : List ℕ → List (List ℕ) → Bool
is_left_out hash hashes = is_locked hash || is_text hash (last_or None hashes)

-- a user's hashes with the one that the user has
abbrev pub with_hash : List ℕ → List (List ℕ) → List (List ℕ)
with_hash hash hashes = if is_left_out hash hashes then hashes else hashes ++ hash ∷ []

-- the last n of these
abbrev pub renewed_hashes : ℕ → List ℕ → List (List ℕ) → List (List ℕ)
renewed_hashes remember hash hashes = last_of remember (with_hash hash hashes)

-- a user without a line gets one, unless the hash is left out
abbrev pub new_line : List ℕ → List ℕ → List Remembered
new_line user hash = if is_locked hash then [] else record { name = user; hashes = hash ∷ [] } ∷ []

-- the lines of all users, with the user's renewed; a new line comes last
abbrev pub renewed : ℕ → List ℕ → List ℕ → List Remembered → List Remembered
renewed remember user hash [] = new_line user hash
renewed remember user hash (r ∷ rs) =
    if bytes_eq r.name user
    then record { name = r.name; hashes = renewed_hashes remember hash r.hashes } ∷ rs
    else r ∷ renewed remember user hash rs

-- ---- a user's line

abbrev pub line_of : List ℕ → List Remembered → Option Remembered
line_of user history = find (λ (r : Remembered). bytes_eq r.name user) history

abbrev pub hashes_in : Option Remembered → List (List ℕ)
hashes_in None = []
hashes_in (Some r) = r.hashes

-- a user without a line has no hashes
abbrev pub hashes_of : List ℕ → List Remembered → List (List ℕ)
hashes_of user history = hashes_in (line_of user history)
