-- Generated files that are stored when there is no file yet: the name under which each is found.
use Rattle.std.proofs.Common.{◌≡◌, ℕ, suc, zero, ◌+◌, ◌-◌, ◌<◌, ◌≤◌, ◌^◌, ◌⊎◌, inl, inr, Bool, true, false, ◌||◌, cond, List, [], ◌∷◌, ◌++◌}
use Rattle.std.proofs.Common.{codes, length, drop, get_or, map, Some, None, nat_lt, refl, sym, ap, ◌∙◌, subst, arith}
use Rattle.std.specs.List.{AllByRecursion, range_with_len}
use Rattle.std.specs.Str.{bytes_eq}
use Rattle.std.proofs.lemmas.Bool.{and_right, cases_eq, le-ltb}
use Rattle.std.proofs.lemmas.Fmt.{decimal_injective}
use Rattle.std.proofs.lemmas.Slice.Eq.{bytes_eq-Decides}
use Rattle.pam_outside.specs.Counts.{fails_next, next_count}
use Rattle.pam_outside.specs.declared.vault.TheConstants.{MAX_FILE}
use Rattle.pam_outside.specs.Files.{File, Locks, VaultState, counted, file_at, file_put, is_below, is_directory}
use Rattle.random_config.specs.declared.files.RandomFile.{RandomFile}
use Rattle.random_config.specs.Files.{count_of, random_file, random_files, name_of, service, text_of}
use Rattle.cmd_generate.specs.Placing.{Placed, fault_of, path_of_service, placed}
use Rattle.cmd_generate.proofs.Lengths.{IsShort}

-- ---- if no call is set to fail and no file is too long, all are stored

pub never : (calls : ℕ) → fails_next calls [] ≡ false
never calls = and_right (nat_lt calls (2 ^ 64 - 1)) false refl

abbrev pub vault_with : List File → Locks → ℕ → VaultState
vault_with files locks calls = record { files = files; locks = locks; calls = calls; fails = [] }

abbrev pub puts : List RandomFile → List File → List File
puts [] files = files
puts (f ∷ fs) files = puts fs (file_put (path_of_service f.name) f.text files)

pub record Stored (files : List File) (locks : Locks) (p : Placed) : Type 0 where
  pub none : p.fault ≡ None
  pub files_are : p.vault.files ≡ files
  pub locks_are : p.vault.locks ≡ locks
  pub fails_are : p.vault.fails ≡ []

-- a call that isn't set to fail takes a file that isn't too long
takes : (f : RandomFile) (calls : ℕ) → IsShort f → (fails_next calls [] || nat_lt MAX_FILE (length f.text)) ≡ false
takes f calls short = ap (λ (b : Bool). b || nat_lt MAX_FILE (length f.text)) (never calls) ∙ le-ltb MAX_FILE (length f.text) short

pub stored : (fs : List RandomFile) → AllByRecursion IsShort fs → (files : List File) (locks : Locks) (calls : ℕ)
    → Stored (puts fs files) locks (placed fs (vault_with files locks calls))
stored [] short files locks calls = record { none = refl; files_are = refl; locks_are = refl; fails_are = refl }
stored (f ∷ fs) short files locks calls =
    let next = vault_with (file_put (path_of_service f.name) f.text files) locks (next_count calls) in
    let stops : Placed = record { vault = counted (vault_with files locks calls); fault = Some (fault_of f) } in
    let is : placed (f ∷ fs) (vault_with files locks calls) ≡ placed fs next = ap (λ (b : Bool). cond b stops (placed fs next)) (takes f calls short.0) in
    subst (Stored (puts (f ∷ fs) files) locks) (sym is) (stored fs short.1 (file_put (path_of_service f.name) f.text files) locks (next_count calls))

-- ---- one file

same : (path : List ℕ) → bytes_eq path path ≡ true
same path = (bytes_eq-Decides path path).1 refl

module _ (path bytes : List ℕ) where
  abbrev it : File
  it = record { path = path; bytes = bytes }

  put_by : (f : File) (fs : List File) (b : Bool) → bytes_eq f.path path ≡ b → file_at path (file_put path bytes fs) ≡ Some bytes
      → file_at path (cond b (it ∷ fs) (f ∷ file_put path bytes fs)) ≡ Some bytes
  put_by f fs true e below = rw (same path) refl
  put_by f fs false e below = rw e below

  put_there : (files : List File) → file_at path (file_put path bytes files) ≡ Some bytes
  put_there [] = rw (same path) refl
  put_there (f ∷ fs) = put_by f fs (bytes_eq f.path path) refl (put_there fs)

  -- the file is in its directory
  or_true : (a : Bool) → (a || true) ≡ true
  or_true true = refl
  or_true false = refl

  module _ (folder : List ℕ) (below : is_below folder path ≡ true) where
    in_by : (f : File) (fs : List File) (b : Bool) → is_directory folder (file_put path bytes fs) ≡ true
        → is_directory folder (cond b (it ∷ fs) (f ∷ file_put path bytes fs)) ≡ true
    in_by f fs true more = rw below refl
    in_by f fs false more = rw more (or_true (is_below folder f.path))

    put_below : (files : List File) → is_directory folder (file_put path bytes files) ≡ true
    put_below [] = rw below refl
    put_below (f ∷ fs) = in_by f fs (bytes_eq f.path path) (put_below fs)

  module _ (other : List ℕ) (differs : path ≡ other → ⊥) where
    is_other : bytes_eq path other ≡ false
    is_other = by (bytes_eq path other) refl
      where
        by : (t : Bool) → bytes_eq path other ≡ t → bytes_eq path other ≡ false
        by true e = absurd (differs ((bytes_eq-Decides path other).0 e))
        by false e = e

    past_by : (f : File) (fs : List File) (b : Bool) → bytes_eq f.path path ≡ b → file_at other (file_put path bytes fs) ≡ file_at other fs
        → file_at other (cond b (it ∷ fs) (f ∷ file_put path bytes fs)) ≡ file_at other (f ∷ fs)
    past_by f fs true e below =
        let passed : bytes_eq f.path other ≡ false = ap (λ (p : List ℕ). bytes_eq p other) ((bytes_eq-Decides f.path path).0 e) ∙ is_other in
        rw (is_other, passed) refl
    past_by f fs false e below = rw below refl

    put_past : (files : List File) → file_at other (file_put path bytes files) ≡ file_at other files
    put_past [] = rw is_other refl
    put_past (f ∷ fs) = past_by f fs (bytes_eq f.path path) refl (put_past fs)

-- ---- many files

abbrev Differs : List ℕ → List RandomFile → Type 0
Differs path fs = AllByRecursion (λ (f : RandomFile). path_of_service f.name ≡ path → ⊥) fs

untouched : (fs : List RandomFile) (path : List ℕ) → Differs path fs → (files : List File) → file_at path (puts fs files) ≡ file_at path files
untouched [] path differs files = refl
untouched (f ∷ fs) path differs files =
    untouched fs path differs.1 (file_put (path_of_service f.name) f.text files) ∙ put_past (path_of_service f.name) f.text path differs.0 files

puts_last : (fs : List RandomFile) (f : RandomFile) (files : List File) → puts (fs ++ f ∷ []) files ≡ file_put (path_of_service f.name) f.text (puts fs files)
puts_last [] f files = refl
puts_last (g ∷ fs) f files = puts_last fs f (file_put (path_of_service g.name) g.text files)

-- ---- the generated files

abbrev pub path_at : ℕ → List ℕ
path_at k = path_of_service (name_of k)

abbrev pub service_path : List ℕ
service_path = codes "/etc/pam.d/gen"

apart : (k j : ℕ) → k < 1000 → j < 1000 → (k ≡ j → ⊥) → path_at k ≡ path_at j → ⊥
apart k j few_k few_j other e = other (decimal_injective k j (omega (arith, few_k)) (omega (arith, few_j)) (ap (drop 15) e))

not_service : (k : ℕ) → service_path ≡ path_at k → ⊥
not_service k e = let longer : 0 ≡ 46 = ap (λ (x : List ℕ). get_or x 14 0) e in omega (arith, longer)

not_other : (k : ℕ) → path_at k ≡ codes "/etc/pam.d/other" → ⊥
not_other k e = let bytes : 103 ≡ 111 = ap (λ (x : List ℕ). get_or x 11 0) e in omega (arith, bytes)

module _ (seed lines : ℕ) where
  abbrev files_from : ℕ → ℕ → List RandomFile
  files_from a n = map (random_file seed lines) (range_with_len a n) ++ service (count_of lines) ∷ []

  later_differ : (a n k : ℕ) → k < a → a + n ≤ 1000 → Differs (path_at k) (files_from a n)
  later_differ a zero k less few = (not_service k, tt)
  later_differ a (suc n) k less few = (
    apart a k (omega (arith, few)) (omega (arith, less, few)) (λ e. omega (arith, e, less)),
    later_differ (a + 1) n k (omega (arith, less)) (omega (arith, few)),
  )

  found : (a n k : ℕ) → a ≤ k → k < a + n → a + n ≤ 1000 → (files : List File) → file_at (path_at k) (puts (files_from a n) files) ≡ Some (text_of seed lines k)
  found a zero k from to few files = absurd (omega (arith, from, to))
  found a (suc n) k from to few files = by (cases_eq a k) (λ from. found (a + 1) n k from (omega (arith, to)) (omega (arith, few))
      (file_put (path_at a) (text_of seed lines a) files))
    where
      by : (a ≡ k) ⊎ (a ≡ k → ⊥) → (a + 1 ≤ k → file_at (path_at k) (puts (files_from (a + 1) n) (file_put (path_at a) (text_of seed lines a) files))
          ≡ Some (text_of seed lines k))
          → file_at (path_at k) (puts (files_from a (suc n)) files) ≡ Some (text_of seed lines k)
      by (inl e) more =
          untouched (files_from (a + 1) n) (path_at k) (later_differ (a + 1) n k (omega (arith, e)) (omega (arith, few)))
          (file_put (path_at a) (text_of seed lines a) files)
          ∙ subst (λ (j : ℕ). file_at (path_at j) (file_put (path_at a) (text_of seed lines a) files) ≡ Some (text_of seed lines j)) e
          (put_there (path_at a) (text_of seed lines a) files)
      by (inr other) more = more (omega (arith, from, other))

  none_is_other : (a n : ℕ) → Differs (codes "/etc/pam.d/other") (files_from a n)
  none_is_other a zero = ((λ e. let ends : 0 ≡ 114 = ap (λ (x : List ℕ). get_or x 15 0) e in omega (arith, ends)), tt)
  none_is_other a (suc n) = (not_other a, none_is_other (a + 1) n)

  module _ (most : lines ≤ 4096) where
    abbrev pub all : List File
    all = puts (random_files seed lines) []

    pub file_found : (k : ℕ) → 1 ≤ k → k ≤ count_of lines → file_at (path_at k) all ≡ Some (text_of seed lines k)
    file_found k from to = found 1 (count_of lines) k from (omega (arith, to)) (omega (arith, most)) []

    pub service_found : file_at service_path all ≡ Some (service (count_of lines)).text
    service_found =
        ap (file_at service_path) (puts_last (map (random_file seed lines) (range_with_len 1 (count_of lines))) (service (count_of lines)) [])
        ∙ put_there service_path (service (count_of lines)).text (puts (map (random_file seed lines) (range_with_len 1 (count_of lines))) [])

    pub other_absent : file_at (codes "/etc/pam.d/other") all ≡ None
    other_absent = untouched (random_files seed lines) (codes "/etc/pam.d/other") (none_is_other 1 (count_of lines)) []

    pub has_directory : is_directory (codes "/etc/pam.d") all ≡ true
    has_directory =
        ap (is_directory (codes "/etc/pam.d")) (puts_last (map (random_file seed lines) (range_with_len 1 (count_of lines))) (service (count_of lines)) [])
        ∙ put_below service_path (service (count_of lines)).text (codes "/etc/pam.d") refl
        (puts (map (random_file seed lines) (range_with_len 1 (count_of lines))) [])
