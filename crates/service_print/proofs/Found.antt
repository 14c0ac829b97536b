-- The files of a printed configuration are found by their names.
use Rattle.std.proofs.Common.{◌≡◌, ℕ, ◌+◌, ◌≤◌, ◌<◌, false, List, [], ◌∷◌, ◌++◌, length, map, Option, Some, refl, sym, ap, ◌∙◌, subst, arith, append_assoc, length-append, add-zero, inl, inr}
use Rattle.std.specs.Prelude.{codes, decimal}
use Rattle.std.specs.Str.{bytes_eq}
use Rattle.std.proofs.lemmas.Bool.{cases_Bool}
use Rattle.std.proofs.lemmas.Slice.Eq.{bytes_eq-Decides}
use Rattle.std.proofs.lemmas.Fmt.{decimal_injective}
use Rattle.pam_outside.specs.Files.{file_at}
use Rattle.control_words.specs.Stack.{Stack, none, line, sub}
use Rattle.service_load.specs.declared.rule_type.RuleType.{RuleType}
use Rattle.pam_outside.specs.Paths.{root_before, path_of}
use Rattle.service_print.specs.declared.file.File.{File}
use Rattle.service_print.specs.Printed.{numbered, subs_in, substack_files, all_substack_files}
use Rattle.service_print.specs.Reload.{placed_file}
use Rattle.service_print.proofs.PrintedNodeFacts.{length-substack_files}
use Rattle.service_print.proofs.Understood.{in_the_directory}

-- ---- names

front_same : (front a b : List ℕ) → front ++ a ≡ front ++ b → a ≡ b
front_same [] a b same = same
front_same (x ∷ front) a b same = let tails : front ++ a ≡ front ++ b = cc in front_same front a b tails

not_equal : (a b : List ℕ) → (a ≡ b → ⊥) → bytes_eq a b ≡ false
not_equal a b other = elim (cases_Bool (bytes_eq a b)) [ inl y ↦ absurd (other ((bytes_eq-Decides a b).0 y)) | inr n ↦ n ]

abbrev pub path_in : List ℕ → List ℕ → List ℕ
path_in root name = path_of root (in_the_directory name)

paths_apart : (root a b : List ℕ) → (a ≡ b → ⊥) → path_in root a ≡ path_in root b → ⊥
unfolding path_of
paths_apart root a b other same = other (front_same (codes "/etc/pam.d/") a b (front_same (root_before root) (in_the_directory a) (in_the_directory b) same))

pub found_first : (root : List ℕ) (file : File) (files : List File) → file_at (path_in root file.name) (map (placed_file root) (file ∷ files)) ≡ Some file.text
found_first root file files = rw ((bytes_eq-Decides (path_in root file.name) (path_in root file.name)).1 refl) refl

pub found_later : (root name : List ℕ) (file : File) (files : List File) → (file.name ≡ name → ⊥)
    → file_at (path_in root name) (map (placed_file root) (file ∷ files)) ≡ file_at (path_in root name) (map (placed_file root) files)
found_later root name file files other = rw (not_equal (path_in root file.name) (path_in root name) (paths_apart root file.name name other)) refl

-- files of substacks have different numbers
pub numbers_apart : (service : List ℕ) (m n : ℕ) → m < 256 → n < 256 → (m ≡ n → ⊥) → numbered service m ≡ numbered service n → ⊥
unfolding numbered
numbers_apart service m n few few' other same =
    let digits : 46 ∷ decimal m ≡ 46 ∷ decimal n = front_same service (46 ∷ decimal m) (46 ∷ decimal n) same in
    let decimals : decimal m ≡ decimal n = cc in
    other (decimal_injective m n (omega arith) (omega arith) decimals)

pub service_apart : (service : List ℕ) (n : ℕ) → service ≡ numbered service n → ⊥
unfolding numbered
service_apart service n same = let longer = ap (length {A = ℕ}) same in absurd (omega (arith, longer, length-append service (46 ∷ decimal n)))

-- ---- files with numbers

-- these files have the numbers from this one on
abbrev pub Numbered : List ℕ → ℕ → List File → Type 0
Numbered service number [] = Unit {0}
Numbered service number (file ∷ files) = (file.name ≡ numbered service number) × Numbered service (number + 1) files

numbered-append : (service : List ℕ) (number next : ℕ) (front more : List File) → Numbered service number front → next ≡ number + length front
    → Numbered service next more → Numbered service number (front ++ more)
numbered-append service number next [] more one is other = subst (λ n. Numbered service n more) (is ∙ add-zero number) other
numbered-append service number next (file ∷ front) more one is other = (one.0, numbered-append service (number + 1) next front more one.1 (omega arith) other)

pub files_numbered : (type : RuleType) (service : List ℕ) (number : ℕ) (stack : Stack) → Numbered service number (substack_files service type number stack)
unfolding substack_files
files_numbered type service number none = tt
files_numbered type service number (line rule rest) = files_numbered type service number rest
files_numbered type service number (sub inner rest) = (
  refl,
  numbered-append service (number + 1) (number + 1 + subs_in inner) (substack_files service type (number + 1) inner) (substack_files service type (number + 1 + subs_in inner) rest)
      (files_numbered type service (number + 1) inner) (omega (arith, length-substack_files service type (number + 1) inner)) (files_numbered type service (number + 1 + subs_in inner) rest),
)

pub all_numbered : (stack : RuleType → Stack) (service : List ℕ) (number : ℕ) (types : List RuleType)
    → Numbered service number (all_substack_files stack service number types)
all_numbered stack service number [] = tt
all_numbered stack service number (type ∷ types) =
    numbered-append service number (number + subs_in (stack type)) (substack_files service type number (stack type)) (all_substack_files stack service (number + subs_in (stack type)) types)
    (files_numbered type service number (stack type)) (omega (arith, length-substack_files service type number (stack type))) (all_numbered stack service (number + subs_in (stack type)) types)

-- ---- all are found

-- each of these files is found under its name
abbrev pub AllThere : (List ℕ → Option (List ℕ)) → List File → Type 0
AllThere texts [] = Unit {0}
AllThere texts (file ∷ files) = (texts (in_the_directory file.name) ≡ Some file.text) × AllThere texts files

abbrev pub texts_in : List ℕ → List File → List ℕ → Option (List ℕ)
texts_in root files name = file_at (path_of root name) (map (placed_file root) files)

-- no file before those from this number on has one of their names
abbrev Passed : List ℕ → List ℕ → ℕ → List File → Type 0
Passed root service number front =
    (m : ℕ) (more : List File) → number ≤ m → m < 256 → file_at (path_in root (numbered service m)) (map (placed_file root) (front ++ more)) ≡ file_at (path_in root (numbered service m)) (map (placed_file root) more)

passed_one : (root service : List ℕ) (number : ℕ) (front : List File) (file : File) → number < 256 → Passed root service number front
    → file.name ≡ numbered service number → Passed root service (number + 1) (front ++ file ∷ [])
passed_one root service number front file few passed named = λ m more above small.
    ap (λ (fs : List File). file_at (path_in root (numbered service m)) (map (placed_file root) fs)) (append_assoc front (file ∷ []) more)
    ∙ passed m (file ∷ more) (omega arith) small
    ∙ found_later root (numbered service m) file more (λ same. numbers_apart service number m few small (λ e. omega arith) (sym named ∙ same))

pub all_found : (root service : List ℕ) (number : ℕ) (all front files : List File) → all ≡ front ++ files → number + length files ≤ 256
    → Passed root service number front → Numbered service number files → AllThere (texts_in root all) files
all_found root service number all front [] is few passed numbers = tt
all_found root service number all front (file ∷ files) is few passed numbers =
    let here : texts_in root all (in_the_directory file.name) ≡ Some file.text =
    ap (λ (fs : List File). file_at (path_in root file.name) (map (placed_file root) fs)) is
    ∙ ap (λ (n : List ℕ). file_at (path_in root n) (map (placed_file root) (front ++ file ∷ files))) numbers.0
    ∙ passed number (file ∷ files) (omega arith) (omega arith)
    ∙ ap (λ (n : List ℕ). file_at (path_in root n) (map (placed_file root) (file ∷ files))) (sym numbers.0)
    ∙ found_first root file files
    in
    (here, all_found root service (number + 1) all (front ++ file ∷ []) files (is ∙ sym (append_assoc front (file ∷ []) files)) (omega arith) (passed_one root service number front file (omega arith) passed numbers.0) numbers.1)

pub there-parts : (texts : List ℕ → Option (List ℕ)) (front more : List File) → AllThere texts (front ++ more) → AllThere texts front × AllThere texts more
there-parts texts [] more all = (tt, all)
there-parts texts (file ∷ front) more all = let parts = there-parts texts front more all.1 in ((all.0, parts.0), parts.1)
