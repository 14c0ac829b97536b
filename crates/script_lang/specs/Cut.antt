-- The words of a line at the places after its command (this project's own: single spaces separate words).
use Rattle.std.specs.Prelude.{◌≡◌, ℕ, ◌+◌, ◌≤◌, Bool, List, [], length, drop, slice_get, Option, Some, None, nat_le, nat_lt, ◌&&◌, ◌||◌, if◌then◌else◌}
use Rattle.std.specs.List.{join_with_byte, count_by, list_any}
use Rattle.std.specs.Option.{is_some, unwrap_or}
use Rattle.pam_base.specs.Words.{words_of}
use Rattle.script_lang.specs.declared.place.Position.{Position}
use Rattle.script_lang.specs.Place.{form_of, is_wanted, is_text}

-- the word of a line's command
abbrev pub first_word : List ℕ → List ℕ
first_word line = unwrap_or (slice_get (words_of line) 0) []

-- the word after n others; for a text everything that follows, with the spaces between
abbrev pub word_at : Position → ℕ → List (List ℕ) → Option (List ℕ)
word_at place before words =
    if is_text place && nat_lt before (length words)
    then Some (join_with_byte 32 (drop before words))
    else slice_get words before

-- how many of the places require a word, and how many allow one
abbrev pub wanted_of : List Position → ℕ
wanted_of places = count_by is_wanted places

abbrev pub most_of : List Position → ℕ
most_of places = count_by (λ place. is_some (form_of place)) places

-- whether there are as many words after the command's as the places ask for; a text may be any
-- number of words
abbrev pub has_its_words : List Position → List (List ℕ) → Bool
has_its_words places words =
    nat_lt (wanted_of places) (length words)
    && (list_any is_text places || nat_le (length words) (most_of places + 1))

-- what is left after n words, if more words follow
abbrev pub IsPast : Option (List ℕ) → ℕ → List (List ℕ) → Type 0
IsPast (Some rest) count words = words_of rest ≡ drop count words
IsPast None count words = length words ≤ count
