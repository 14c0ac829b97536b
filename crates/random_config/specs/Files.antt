-- The random service files of a seed (this project's own).
use Rattle.std.specs.Prelude.{ℕ, ◌+◌, ◌-◌, ◌*◌, ◌/◌, ◌%◌, min, Bool, nat_eq, nat_lt, ◌&&◌, if◌then◌else◌, List, [], ◌∷◌, ◌++◌, codes, map}
use Rattle.std.specs.List.{flat_map, filter, range_with_len}
use Rattle.std.specs.Fmt.{decimal}
use Rattle.random_config.specs.Line.{random_lines}
use Rattle.random_config.specs.declared.files.RandomFile.{RandomFile}

-- how many files hold n lines, 32 each
abbrev pub count_of : ℕ → ℕ
count_of lines = (lines + 31) / 32

-- the file with this number, from 1
abbrev pub name_of : ℕ → List ℕ
name_of k = codes "gen." ++ decimal k

abbrev pub substack_line : ℕ → List ℕ
substack_line k = codes "auth substack " ++ (name_of k ++ codes "\n")

abbrev pub is_odd : ℕ → Bool
is_odd k = nat_eq (k % 2) 1

-- the lines of a file; after those of an odd one the file after it is a substack, if there is one
abbrev pub text_of : ℕ → ℕ → ℕ → List ℕ
text_of seed lines k =
    random_lines seed (32 * (k - 1)) (min (32 * k) lines - 32 * (k - 1))
    ++ (if is_odd k && nat_lt k (count_of lines) then substack_line (k + 1) else [])

abbrev pub random_file : ℕ → ℕ → ℕ → RandomFile
random_file seed lines k = record { name = name_of k; text = text_of seed lines k }

-- the service, with each odd file as a substack
abbrev pub service : ℕ → RandomFile
service count = record {
  name = codes "gen";
  text = flat_map substack_line (filter is_odd (range_with_len 1 count));
}

-- all files in their order, and the service after them
abbrev pub random_files : ℕ → ℕ → List RandomFile
random_files seed lines = map (random_file seed lines) (range_with_len 1 (count_of lines))
    ++ service (count_of lines) ∷ []
