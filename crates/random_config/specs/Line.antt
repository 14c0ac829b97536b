-- A random line of a service file (this project's own).
use Rattle.std.specs.Prelude.{ℕ, ◌+◌, ◌*◌, ◌%◌, List, [], ◌∷◌, ◌++◌, codes, length, get_or}
use Rattle.std.specs.List.{flat_map, range_with_len}
use Rattle.random_config.specs.Generator.{random_number}

-- what is done at SUCCESS, what is done at any other code, and what the module returns
abbrev pub success_words : List (List ℕ)
success_words = codes "ok" ∷ codes "ok" ∷ codes "done" ∷ codes "ignore" ∷ codes "reset" ∷ codes "1"
    ∷ codes "2" ∷ codes "3" ∷ []

abbrev pub default_words : List (List ℕ)
default_words = codes "ignore" ∷ codes "bad" ∷ codes "die" ∷ codes "reset" ∷ []

abbrev pub answer_words : List (List ℕ)
answer_words = codes "success" ∷ codes "success" ∷ codes "auth_err" ∷ codes "ignore" ∷ []

-- the word that a random number picks
abbrev pub picked : List (List ℕ) → ℕ → List ℕ
picked words n = get_or words (n % length words) []

abbrev pub line_text : List ℕ → List ℕ → List ℕ → List ℕ
line_text success default answer =
    codes "auth [success="
    ++ (success ++ (codes " new_authtok_reqd=ok default="
    ++ (default ++ (codes "] pam_debug.so auth=" ++ (answer ++ codes "\n")))))

-- the line after n others, by three random numbers
abbrev pub random_line : ℕ → ℕ → List ℕ
random_line seed n = line_text (picked success_words (random_number seed (3 * n)))
    (picked default_words (random_number seed (3 * n + 1))) (picked answer_words (random_number seed (3 * n + 2)))

-- count lines, of which the first has n before it
abbrev pub random_lines : ℕ → ℕ → ℕ → List ℕ
random_lines seed before count = flat_map (random_line seed) (range_with_len before count)
