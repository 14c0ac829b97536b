-- What is set after a name was put or deleted.
use Rattle.std.proofs.Common.{◌≡◌, ◌≢◌, ℕ, Bool, true, false, List, [], ◌∷◌, ◌++◌, map, Some, None, refl, sym, ap, ◌∙◌, if◌then◌else◌}
use Rattle.std.specs.List.{find, AllByRecursion, IsDistinct}
use Rattle.std.specs.Option.{option_map}
use Rattle.std.specs.Str.{bytes_eq}
use Rattle.env_list.specs.Environment.{Variable, is_named, is_set, value_of, with_value, without, HaveDifferentNames}
use Rattle.env_list.proofs.Names.{same_name, own_name, other_name, none_of_parts}

abbrev pub changed : List ℕ → List ℕ → Variable → Variable
changed name value variable = if is_named name variable then record variable { value = value } else variable

abbrev pub added : List ℕ → List ℕ → Variable
added name value = record { name = name; value = value }

-- a name that is set
changed_value : (name value : List ℕ) (variables : List Variable) → is_set name variables ≡ true
    → value_of name (map (changed name value) variables) ≡ Some value
changed_value name value [] there = absurd cc
changed_value name value (variable ∷ variables) there = by (is_named name variable) refl (λ later. changed_value name value variables later)
  where
    by : (b : Bool) → is_named name variable ≡ b → (is_set name variables ≡ true → value_of name (map (changed name value) variables) ≡ Some value)
        → value_of name (map (changed name value) (variable ∷ variables)) ≡ Some value
    by true e rest = rw (e, e) refl
    by false e rest = rw (e, e) (rest (rw e at there))

-- a new name
added_value : (name value : List ℕ) (variables : List Variable) → is_set name variables ≡ false
    → value_of name (variables ++ added name value ∷ []) ≡ Some value
added_value name value [] none = rw (own_name name) refl
added_value name value (variable ∷ variables) none =
    let parts = none_of_parts (is_named name variable) (is_set name variables) none in
    rw parts.0 (added_value name value variables parts.1)

pub put_value : (name value : List ℕ) (variables : List Variable) → value_of name (with_value name value variables) ≡ Some value
put_value name value variables = by (is_set name variables) refl
  where
    by : (b : Bool) → is_set name variables ≡ b → value_of name (with_value name value variables) ≡ Some value
    by true e = rw e (changed_value name value variables e)
    by false e = rw e (added_value name value variables e)

-- the other names
changed_others : (name other value : List ℕ) (variables : List Variable) → other ≢ name
    → value_of other (map (changed name value) variables) ≡ value_of other variables
changed_others name other value [] differ = refl
changed_others name other value (variable ∷ variables) differ = by (is_named name variable) refl (changed_others name other value variables differ)
  where
    by : (b : Bool) → is_named name variable ≡ b → value_of other (map (changed name value) variables) ≡ value_of other variables
        → value_of other (map (changed name value) (variable ∷ variables)) ≡ value_of other (variable ∷ variables)
    by true e rest =
        let apart : is_named other variable ≡ false = other_name other variable.name (λ same. differ (same ∙ sym (same_name name variable.name e))) in
        rw (e, apart) rest
    by false e rest =
        rw e
        (elim (is_named other variable) as (λ c. option_map (λ v. v.value) (if c then Some variable else find (is_named other) (map (changed name value) variables))
        ≡ option_map (λ v. v.value) (if c then Some variable else find (is_named other) variables)) [ true ↦ refl | false ↦ rest ])

added_others : (name other value : List ℕ) (variables : List Variable) → other ≢ name
    → value_of other (variables ++ added name value ∷ []) ≡ value_of other variables
added_others name other value [] differ = rw (other_name other name differ) refl
added_others name other value (variable ∷ variables) differ =
    let rest = added_others name other value variables differ in
    elim (is_named other variable) as (λ c. option_map (λ v. v.value) (if c then Some variable else find (is_named other) (variables ++ added name value ∷ []))
    ≡ option_map (λ v. v.value) (if c then Some variable else find (is_named other) variables)) [ true ↦ refl | false ↦ rest ]

pub put_others : (name other value : List ℕ) (variables : List Variable) → other ≢ name
    → value_of other (with_value name value variables) ≡ value_of other variables
put_others name other value variables differ = by (is_set name variables) refl
  where
    by : (b : Bool) → is_set name variables ≡ b → value_of other (with_value name value variables) ≡ value_of other variables
    by true e = rw e (changed_others name other value variables differ)
    by false e = rw e (added_others name other value variables differ)

-- the place
changed_names : (name value : List ℕ) (variables : List Variable) → map (λ v. v.name) (map (changed name value) variables) ≡ map (λ v. v.name) variables
changed_names name value [] = refl
changed_names name value (variable ∷ variables) =
    let rest = changed_names name value variables in
    elim (is_named name variable) as (λ c. (if c then record variable { value = value } else variable).name ∷ map (λ v. v.name) (map (changed name value) variables)
    ≡ variable.name ∷ map (λ v. v.name) variables) [ true ↦ ap (λ (ns : List (List ℕ)). variable.name ∷ ns) rest | false ↦ ap (λ (ns : List (List ℕ)). variable.name ∷ ns) rest ]

pub put_names : (name value : List ℕ) (variables : List Variable) → is_set name variables ≡ true
    → map (λ v. v.name) (with_value name value variables) ≡ map (λ v. v.name) variables
put_names name value variables there = rw there (changed_names name value variables)

-- a deleted name
pub deleted_value : (name : List ℕ) (variables : List Variable) → value_of name (without name variables) ≡ None
deleted_value name [] = refl
deleted_value name (variable ∷ variables) = by (is_named name variable) refl (deleted_value name variables)
  where
    by : (b : Bool) → is_named name variable ≡ b → value_of name (without name variables) ≡ None → value_of name (without name (variable ∷ variables)) ≡ None
    by true e rest = rw e rest
    by false e rest = rw (e, e) rest

pub deleted_others : (name other : List ℕ) (variables : List Variable) → other ≢ name → value_of other (without name variables) ≡ value_of other variables
deleted_others name other [] differ = refl
deleted_others name other (variable ∷ variables) differ = by (is_named name variable) refl (deleted_others name other variables differ)
  where
    by : (b : Bool) → is_named name variable ≡ b → value_of other (without name variables) ≡ value_of other variables
        → value_of other (without name (variable ∷ variables)) ≡ value_of other (variable ∷ variables)
    by true e rest =
        let apart : is_named other variable ≡ false = other_name other variable.name (λ same. differ (same ∙ sym (same_name name variable.name e))) in
        rw (e, apart) rest
    by false e rest =
        rw e
        (elim (is_named other variable) as (λ c. option_map (λ v. v.value) (if c then Some variable else find (is_named other) (without name variables))
        ≡ option_map (λ v. v.value) (if c then Some variable else find (is_named other) variables)) [ true ↦ refl | false ↦ rest ])

-- variables of which none has the name
abbrev pub NoneNamed : List ℕ → List Variable → Type 0
NoneNamed name variables = AllByRecursion (λ other. bytes_eq name other ≡ false) (map (λ v. v.name) variables)

pub none_deleted : (name : List ℕ) (variables : List Variable) → NoneNamed name variables → without name variables ≡ variables
none_deleted name [] none = refl
none_deleted name (variable ∷ variables) none = rw none.0 (ap (λ (vs : List Variable). variable ∷ vs) (none_deleted name variables none.1))

pub none_changed : (name value : List ℕ) (variables : List Variable) → NoneNamed name variables → map (changed name value) variables ≡ variables
none_changed name value [] none = refl
none_changed name value (variable ∷ variables) none = rw none.0 (ap (λ (vs : List Variable). variable ∷ vs) (none_changed name value variables none.1))

apart_from : (variable : Variable) (before the_rest : List Variable) (first : Variable) → NoneNamed first.name (before ++ variable ∷ the_rest)
    → is_named variable.name first ≡ false
apart_from variable [] the_rest first none = other_name variable.name first.name (λ same. let e : bytes_eq first.name variable.name ≡ true = rw same (own_name first.name) in let no : true ≡ false = sym e ∙ none.0 in cc)
apart_from variable (next ∷ before) the_rest first none = apart_from variable before the_rest first none.1

pub deletion_closes : (variable : Variable) (before the_rest : List Variable) → HaveDifferentNames (before ++ variable ∷ the_rest)
    → without variable.name (before ++ variable ∷ the_rest) ≡ before ++ the_rest
unfolding IsDistinct
deletion_closes variable [] the_rest differ = rw (own_name variable.name) (none_deleted variable.name the_rest differ.0)
deletion_closes variable (first ∷ before) the_rest differ =
    rw (apart_from variable before the_rest first differ.0)
    (ap (λ (vs : List Variable). first ∷ vs) (deletion_closes variable before the_rest differ.1))

pub unset_stays : (name : List ℕ) (variables : List Variable) → is_set name variables ≡ false → without name variables ≡ variables
unset_stays name [] none = refl
unset_stays name (variable ∷ variables) none =
    let parts = none_of_parts (is_named name variable) (is_set name variables) none in
    rw parts.0 (ap (λ (vs : List Variable). variable ∷ vs) (unset_stays name variables parts.1))
