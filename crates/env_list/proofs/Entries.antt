-- What the map's calls do to the variables.
use Rattle.std.proofs.Common.{◌≡◌, ℕ, Bool, true, false, List, [], ◌∷◌, ◌++◌, map, Some, Vec, refl, sym, ap, append_assoc, is_some, if◌then◌else◌}
use Rattle.std.specs.Global.{Global}
use Rattle.std.specs.List.{find, AllByRecursion, IsDistinct}
use Rattle.std.specs.Map.{keys_of, lookup, remove_entry}
use Rattle.std.specs.Option.{option_map}
use Rattle.std.specs.Str.{bytes_eq}
use Rattle.std.proofs.lemmas.List.{map-append}
use Rattle.indexmap.specs.IndexMap.{insert_entry}
use Rattle.env_list.specs.Environment.{Variable, is_named, is_set, value_of, with_value, without, variable_text, HaveDifferentNames}
use Rattle.env_list.specs.Entries.{variable_of, variables_of}
use Rattle.env_list.proofs.Names.{same_name, none_of_parts}
use Rattle.env_list.proofs.Variables.{changed, added, NoneNamed, none_changed, none_deleted}

abbrev pub Entry : Type 0
Entry = Vec ℕ Global × List ℕ

-- whether two keys of the map are the same name
abbrev pub is_same : Vec ℕ Global → Vec ℕ Global → Bool
is_same one other = bytes_eq one.items other.items

none_of : (key : Vec ℕ Global) (entries : List Entry) → AllByRecursion (λ other. is_same key other ≡ false) (keys_of entries)
    → NoneNamed key.items (variables_of entries)
none_of key [] none = none
none_of key (entry ∷ entries) none = (none.0, none_of key entries none.1)

pub different_names : (entries : List Entry) → IsDistinct is_same (keys_of entries) → HaveDifferentNames (variables_of entries)
unfolding IsDistinct
different_names [] differ = differ
different_names (entry ∷ entries) differ = (none_of entry.0 entries differ.0, different_names entries differ.1)

-- a look-up
pub looked_up : (name : List ℕ) (entries : List Entry) → lookup (λ key. bytes_eq name key.items) entries ≡ value_of name (variables_of entries)
looked_up name [] = refl
looked_up name (entry ∷ entries) =
    let rest = looked_up name entries in
    elim (bytes_eq name entry.0.items) as (λ c. (if c then Some entry.1 else lookup (λ key. bytes_eq name key.items) entries)
    ≡ option_map (λ v. v.value) (if c then Some (variable_of entry) else find (is_named name) (variables_of entries))) [ true ↦ refl | false ↦ rest ]

pub found : (name : List ℕ) (entries : List Entry) → is_some (lookup (λ key. bytes_eq name key.items) entries) ≡ is_set name (variables_of entries)
found name [] = refl
found name (entry ∷ entries) = by (bytes_eq name entry.0.items) refl (found name entries)
  where
    by : (b : Bool) → bytes_eq name entry.0.items ≡ b → is_some (lookup (λ key. bytes_eq name key.items) entries) ≡ is_set name (variables_of entries)
        → is_some (lookup (λ key. bytes_eq name key.items) (entry ∷ entries)) ≡ is_set name (variables_of (entry ∷ entries))
    by true e rest = rw e refl
    by false e rest = rw e rest

-- an insertion
inserted_last : (key : Vec ℕ Global) (value : List ℕ) (entries : List Entry) → is_set key.items (variables_of entries) ≡ false
    → variables_of (insert_entry is_same entries key value) ≡ variables_of entries ++ added key.items value ∷ []
inserted_last key value [] none = refl
inserted_last key value (entry ∷ entries) none =
    let parts = none_of_parts (bytes_eq key.items entry.0.items) (is_set key.items (variables_of entries)) none in
    rw parts.0 (ap (λ (vs : List Variable). variable_of entry ∷ vs) (inserted_last key value entries parts.1))

inserted_in_place : (key : Vec ℕ Global) (value : List ℕ) (entries : List Entry) → HaveDifferentNames (variables_of entries)
    → is_set key.items (variables_of entries) ≡ true
    → variables_of (insert_entry is_same entries key value) ≡ map (changed key.items value) (variables_of entries)
unfolding IsDistinct
inserted_in_place key value [] differ there = absurd cc
inserted_in_place key value (entry ∷ entries) differ there =
    by (bytes_eq key.items entry.0.items) refl (λ later. inserted_in_place key value entries differ.1 later)
  where
    by : (b : Bool) → bytes_eq key.items entry.0.items ≡ b
        → (is_set key.items (variables_of entries) ≡ true → variables_of (insert_entry is_same entries key value) ≡ map (changed key.items value) (variables_of entries))
        → variables_of (insert_entry is_same (entry ∷ entries) key value) ≡ map (changed key.items value) (variables_of (entry ∷ entries))
    by true e rest =
        let name : key.items ≡ entry.0.items = same_name key.items entry.0.items e in
        let none : NoneNamed key.items (variables_of entries) = rw name differ.0 in
        rw e (ap (λ (vs : List Variable). record { name = entry.0.items; value = value } ∷ vs) (sym (none_changed key.items value (variables_of entries) none)))
    by false e rest =
        let later : is_set key.items (variables_of entries) ≡ true = rw e at there in
        rw e (ap (λ (vs : List Variable). variable_of entry ∷ vs) (rest later))

pub inserted : (key : Vec ℕ Global) (value : List ℕ) (entries : List Entry) → HaveDifferentNames (variables_of entries)
    → variables_of (insert_entry is_same entries key value) ≡ with_value key.items value (variables_of entries)
inserted key value entries differ = by (is_set key.items (variables_of entries)) refl
  where
    by : (b : Bool) → is_set key.items (variables_of entries) ≡ b
        → variables_of (insert_entry is_same entries key value) ≡ with_value key.items value (variables_of entries)
    by true e = rw e (inserted_in_place key value entries differ e)
    by false e = rw e (inserted_last key value entries e)

-- a removal
pub removed : (name : List ℕ) (entries : List Entry) → HaveDifferentNames (variables_of entries)
    → variables_of (remove_entry (λ key. bytes_eq name key.items) entries) ≡ without name (variables_of entries)
unfolding IsDistinct
removed name [] differ = refl
removed name (entry ∷ entries) differ = by (bytes_eq name entry.0.items) refl (removed name entries differ.1)
  where
    by : (b : Bool) → bytes_eq name entry.0.items ≡ b
        → variables_of (remove_entry (λ key. bytes_eq name key.items) entries) ≡ without name (variables_of entries)
        → variables_of (remove_entry (λ key. bytes_eq name key.items) (entry ∷ entries)) ≡ without name (variables_of (entry ∷ entries))
    by true e rest =
        let same : name ≡ entry.0.items = same_name name entry.0.items e in
        let none : NoneNamed name (variables_of entries) = rw same differ.0 in
        rw e (sym (none_deleted name (variables_of entries) none))
    by false e rest = rw e (ap (λ (vs : List Variable). variable_of entry ∷ vs) rest)

-- one more variable is listed
pub listed : (done rest : List Entry) (entry : Entry) (variables : List Variable) (texts : List (List ℕ)) (text : List ℕ)
    → variables_of (done ++ entry ∷ rest) ≡ variables → texts ≡ map variable_text (variables_of done) → text ≡ variable_text (variable_of entry)
    → (more : List Entry) × (variables_of (more ++ rest) ≡ variables) × (texts ++ text ∷ [] ≡ map variable_text (variables_of more))
listed done rest entry variables texts text all so_far this =
    (done ++ entry ∷ [], rw append_assoc all, rw (so_far, this) (simp map-append))
