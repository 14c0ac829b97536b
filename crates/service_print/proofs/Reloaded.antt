-- If there are exactly the printed files, they load to the stacks that were printed.
use Rattle.std.proofs.Common.{◌≡◌, ℕ, ◌+◌, ◌≤◌, Bool, true, false, not, ◌&&◌, eqb, nat_lt, nat_le, List, [], ◌∷◌, ◌++◌, length, map, take, Option, None, Ok, refl, sym, ap, ◌∙◌, arith, append_assoc, length-append, inl, inr}
use Rattle.std.specs.Prelude.{codes, nat_eq, decimal}
use Rattle.std.specs.List.{list_all}
use Rattle.std.specs.Cmp.Lexicographic.{pointwise}
use Rattle.std.specs.Str.{bytes_eq, str_to_ascii_lowercase}
use Rattle.std.proofs.lemmas.Bool.{cases_Bool, and_parts, and_right, false≢true, true≢false, or_left, or_right}
use Rattle.std.proofs.lemmas.Slice.Eq.{bytes_eq-Decides}
use Rattle.std.proofs.lemmas.List.Folds.{list_any-append}
use Rattle.std.proofs.Math.Seq.{take-append_seam}
use Rattle.pam_base.specs.Bytes.{has_byte}
use Rattle.pam_base.specs.Counts.{next_count, fails_next}
use Rattle.pam_base.specs.ServiceName.{is_name_byte, is_service_name}
use Rattle.pam_outside.specs.Files.{VaultState, file_at, is_below, is_directory, is_failing}
use Rattle.pam_outside.specs.Files.{File as VaultFile}
use Rattle.control_words.specs.Stack.{Stack}
use Rattle.service_load.specs.declared.rule_type.RuleType.{RuleType}
use Rattle.service_load.specs.Entry.{directory_name}
use Rattle.service_load.specs.FirstFault.{Counts, look}
use Rattle.service_load.specs.Load.{directory_exists, loaded}
use Rattle.service_load.specs.Loading.{texts_of}
use Rattle.pam_outside.specs.Paths.{root_before, path_of}
use Rattle.service_load.specs.Order.{order}
use Rattle.service_load.specs.RuleType.{all_types}
use Rattle.service_load.specs.Tree.{tree}
use Rattle.service_print.specs.declared.file.File.{File}
use Rattle.service_print.specs.Printed.{numbered, subs_in, substack_files, all_lines, all_substack_files, service_text, printed}
use Rattle.service_print.specs.Reload.{LoadsTo, placed_file, HoldsJust, is_short, IsLowerName}
use Rattle.service_print.proofs.PrintedNodeFacts.{length-substack_files}
use Rattle.service_print.proofs.Lexed.{OneReading}
use Rattle.service_print.proofs.Understood.{IsServiceName, in_the_directory}
use Rattle.service_print.proofs.Found.{path_in, found_first, found_later, service_apart, Numbered, all_numbered, AllThere, texts_in, all_found}
use Rattle.service_print.proofs.Segments.{short_file, stack_files_stand, all_fields, all_meanings, all_subs, service_lines, service_meant, part_of}
use Rattle.service_print.proofs.Returned.{IsPrintable, openings_of, Stands, tree_is, pass_order}

-- ---- names

begins_bytes : (name : List ℕ) → nat_lt 0 (length name) ≡ true → list_all is_name_byte name ≡ true → IsServiceName name
begins_bytes [] some bytes = absurd (false≢true some)
begins_bytes (b ∷ bs) some bytes = record { bytes = bytes; first = b; more = bs; some = refl }

service_name_is : (name : List ℕ) → is_service_name name ≡ true → IsServiceName name
service_name_is name is =
    let some = nat_lt 0 (length name) in
    let few = nat_le (length name) 64 in
    let bytes = list_all is_name_byte name in
    let fourth = and_parts (some && few && bytes && not (bytes_eq name (codes "."))) (not (bytes_eq name (codes ".."))) is in
    let third = and_parts (some && few && bytes) (not (bytes_eq name (codes "."))) fourth.0 in
    let second = and_parts (some && few) bytes third.0 in
    let first = and_parts some few second.0 in
    begins_bytes name first.0 second.1

has_dot : (service digits : List ℕ) → has_byte 46 (service ++ 46 ∷ digits) ≡ true
has_dot service digits = list_any-append (λ b. eqb b 46) service (46 ∷ digits) ∙ or_right (has_byte 46 service) (has_byte 46 (46 ∷ digits)) refl

numbered_not_other : (service : List ℕ) (number : ℕ) → numbered service number ≡ codes "other" → ⊥
unfolding numbered
numbered_not_other service number same = false≢true (sym (ap (has_byte 46) same) ∙ has_dot service (decimal number))

-- ---- `other`

no_other : (root service : List ℕ) (number : ℕ) (files : List File) → Numbered service number files
    → file_at (path_in root (codes "other")) (map (placed_file root) files) ≡ None
no_other root service number [] numbers = refl
no_other root service number (file ∷ files) numbers =
    found_later root (codes "other") file files (λ same. numbered_not_other service number (sym numbers.0 ∙ same)) ∙ no_other root service (number + 1) files numbers.1

-- ---- the files

all_files_length : (stack : RuleType → Stack) (service : List ℕ) (number : ℕ) (types : List RuleType)
    → length (all_substack_files stack service number types) ≡ all_subs stack service types
all_files_length stack service number [] = refl
all_files_length stack service number (type ∷ types) =
    omega (arith, length-append (substack_files service type number (stack type)) (all_substack_files stack service (number + subs_in (stack type)) types), length-substack_files service type number (stack type), all_files_length stack service (number + subs_in (stack type)) types)

few_subs : (stack : RuleType → Stack) (service : List ℕ) (types : List RuleType) → length types + all_subs stack service types ≤ openings_of stack types
few_subs stack service [] = omega arith
few_subs stack service (type ∷ types) = omega (arith, few_subs stack service types)

subs_few : (stack : RuleType → Stack) (service : List ℕ) → openings_of stack all_types ≤ 256 → 1 + all_subs stack service all_types ≤ 256
subs_few stack service few = omega (arith, few_subs stack service all_types, few)

abbrev service_file_of : (RuleType → Stack) → List ℕ → File
service_file_of stack service = record { name = service; text = service_text stack service }

printed_is : (stack : RuleType → Stack) (service : List ℕ)
    → printed stack service ≡ service_file_of stack service ∷ all_substack_files stack service 1 all_types
unfolding printed
printed_is stack service = refl

stands_in : OneReading → (root service : List ℕ) (stack : RuleType → Stack) → IsServiceName service → IsPrintable stack → openings_of stack all_types ≤ 256
    → list_all is_short (service_file_of stack service ∷ all_substack_files stack service 1 all_types) ≡ true
    → Stands (texts_in root (service_file_of stack service ∷ all_substack_files stack service 1 all_types)) service stack
stands_in only root service stack name is few short =
    let first = service_file_of stack service in
    let subs = all_substack_files stack service 1 all_types in
    let texts = texts_in root (first ∷ subs) in
    let small = subs_few stack service few in
    let count : 1 + length subs ≤ 256 = omega (arith, all_files_length stack service 1 all_types, small) in
    let there : AllThere texts subs = all_found root service 1 (first ∷ subs) (first ∷ []) subs refl count (λ m more above below. found_later root (numbered service m) first more (service_apart service m)) (all_numbered stack service 1 all_types) in
    let shorts = and_parts (is_short first) (list_all is_short subs) short in
    record {
      file = short_file only texts first (all_fields stack service 1 all_types) (all_lines stack service 1 all_types) (all_meanings stack service 1 all_types) (service_lines stack service 1 all_types name is.writable small) (service_meant stack service 1 all_types) refl shorts.0 (found_first root first subs);
      subs = λ type.
          let part = part_of stack service type in
          stack_files_stand only texts type service part.start (stack type) name (is.writable type) (omega (arith, part.within, small)) (part.there texts there) (part.short shorts.1);
      other = elim (cases_Bool (bytes_eq service (codes "other"))) [
        | inl y ↦ inr ((bytes_eq-Decides service (codes "other")).0 y)
        | inr n ↦ inl (found_later root (codes "other") first subs (λ same. true≢false (sym ((bytes_eq-Decides service (codes "other")).1 same) ∙ n)) ∙ no_other root service 1 subs (all_numbered stack service 1 all_types))
      ];
    }

-- ---- the directory

pointwise_self : (text : List ℕ) → pointwise nat_eq text text ≡ true
pointwise_self text = (bytes_eq-Decides text text).1 refl

below_by : (folder path rest : List ℕ) → path ≡ (folder ++ codes "/") ++ rest → is_below folder path ≡ true
below_by folder path rest is =
    let needle = folder ++ codes "/" in
    let front : take (length needle) path ≡ needle = ap (take (length needle)) is ∙ take-append_seam needle rest in
    ap (pointwise nat_eq needle) front ∙ pointwise_self needle

directory_there : (root : List ℕ) (file : File) (files : List File) → is_directory (path_of root directory_name) (map (placed_file root) (file ∷ files)) ≡ true
unfolding path_of
directory_there root file files =
    let path : path_of root (in_the_directory file.name) ≡ (path_of root directory_name ++ codes "/") ++ file.name =
    sym (append_assoc (path_of root directory_name) (codes "/") file.name ∙ append_assoc (root_before root) directory_name (codes "/" ++ file.name)) in
    or_left (is_below (path_of root directory_name) (path_of root (in_the_directory file.name))) (is_directory (path_of root directory_name) (map (placed_file root) files)) (below_by (path_of root directory_name) (path_of root (in_the_directory file.name)) file.name path)

-- ---- the load

no_failing : (calls : ℕ) (fails : List ℕ) → fails ≡ [] → fails_next calls fails ≡ false
no_failing calls fails none = rw none (and_right _ false refl)

loaded_by : (vault : VaultState) (root service : List ℕ) (texts : List ℕ → Option (List ℕ)) (counts : Counts) → is_failing vault ≡ false
    → directory_exists vault root ≡ true → texts_of root vault ≡ texts → vault.fails ≡ []
    → look texts [] (record { calls = next_count vault.calls; openings = 0; lines = 0 }) (order texts true service) ≡ Ok counts → loaded vault root service ≡ Ok counts
loaded_by vault root service texts counts works folder same no_fails looked =
    let start : Counts = record { calls = next_count vault.calls; openings = 0; lines = 0 } in
    rw (works, folder)
    (ap (λ (fails : List ℕ). look (texts_of root vault) fails start (order (texts_of root vault) true service)) no_fails
    ∙ ap (λ (t : List ℕ → Option (List ℕ)). look t [] start (order t true service)) same
    ∙ looked)

loads_to : OneReading → (stack : RuleType → Stack) (vault : VaultState) (root service : List ℕ) → IsPrintable stack
    → openings_of stack all_types ≤ 256 → IsServiceName service → str_to_ascii_lowercase service ≡ service
    → vault.files ≡ map (placed_file root) (service_file_of stack service ∷ all_substack_files stack service 1 all_types) → vault.fails ≡ [] → list_all is_short (service_file_of stack service ∷ all_substack_files stack service 1 all_types) ≡ true
    → LoadsTo vault root service stack
loads_to only stack vault root service is few name lower files no_fails short =
    let first = service_file_of stack service in
    let subs = all_substack_files stack service 1 all_types in
    let texts = texts_in root (first ∷ subs) in
    let stands = stands_in only root service stack name is few short in
    let same : texts_of root vault ≡ texts = ap (λ (fs : List VaultFile). λ (n : List ℕ). file_at (path_of root n) fs) files in
    let folder : directory_exists vault root ≡ true = ap (is_directory (path_of root directory_name)) files ∙ directory_there root first subs in
    let looked = pass_order texts service stack stands is lower few (next_count vault.calls) in
    record {
      counts = looked.0;
      no_fault = loaded_by vault root service texts looked.0 (no_failing vault.calls vault.fails no_fails) folder same no_fails looked.1;
      stacks = λ type.
          ap (λ (t : List ℕ → Option (List ℕ)). tree t (directory_exists vault root) service type) same
          ∙ ap (λ (b : Bool). tree texts b service type) folder
          ∙ tree_is texts service stack stands is lower type;
    }

-- what was printed loads to the same stacks
pub reload : OneReading → (stack : RuleType → Stack) (vault : VaultState) (root service : List ℕ) → IsPrintable stack
    → openings_of stack all_types ≤ 256 → IsLowerName service
    → HoldsJust vault root (printed stack service) → list_all is_short (printed stack service) ≡ true → LoadsTo vault root service stack
reload only stack vault root service is few name holds short =
    loads_to only stack vault root service is few (service_name_is service name.name) name.lower
    (holds.files_are ∙ ap (map (placed_file root)) (printed_is stack service)) holds.no_fails (sym (ap (list_all is_short) (printed_is stack service)) ∙ short)
