-- The environment of a transaction: pam_putenv(3), pam_getenv(3) and pam_getenvlist(3). That the variables keep their
-- order is this project's own.
use Rattle.std.specs.Prelude.{ℕ, Bool, not, ◌&&◌, ◌||◌, ◌==◌, List, [], ◌∷◌, ◌++◌, map, filter, length, Option, if◌then◌else◌}
use Rattle.std.specs.List.{find, list_any, before_first, after_first, IsDistinct}
use Rattle.std.specs.Option.{option_map}
use Rattle.std.specs.Str.{bytes_eq}
use Rattle.pam_base.specs.Bytes.{has_byte}

-- a name and its value
pub record Variable : Type 0 where
  pub name : List ℕ
  pub value : List ℕ

-- whether the variable has this name
abbrev pub is_named : List ℕ → Variable → Bool
is_named name variable = bytes_eq name variable.name

-- whether the name is set
abbrev pub is_set : List ℕ → List Variable → Bool
is_set name variables = list_any (is_named name) variables

-- the value of a name, if it is set
abbrev pub value_of : List ℕ → List Variable → Option (List ℕ)
value_of name variables = option_map (λ variable. variable.value) (find (is_named name) variables)

-- the variables with this value for a name: one that is set keeps its position, a new one goes last
abbrev pub with_value : List ℕ → List ℕ → List Variable → List Variable
with_value name value variables =
    if is_set name variables
    then map (λ variable. if is_named name variable then record variable { value = value }
    else variable) variables
    else variables ++ record { name = name; value = value } ∷ []

-- the variables without a name
abbrev pub without : List ℕ → List Variable → List Variable
without name variables = filter (λ variable. not (is_named name variable)) variables

-- no name is equal to one after it
abbrev pub HaveDifferentNames : List Variable → Type 0
HaveDifferentNames variables = IsDistinct bytes_eq (map (λ variable. variable.name) variables)

-- the text of a variable, as the list of the environment has it
abbrev pub variable_text : Variable → List ℕ
variable_text variable = variable.name ++ 61 ∷ variable.value

-- the name in a text: what comes before its first `=`
abbrev pub name_in : List ℕ → List ℕ
name_in text = before_first (λ byte. byte == 61) text

-- the value in a text: what follows its first `=`
abbrev pub value_in : List ℕ → List ℕ
value_in text = after_first (λ byte. byte == 61) text

-- a text without `=` deletes its name
abbrev pub is_deletion : List ℕ → Bool
is_deletion text = not (has_byte 61 text)

-- a text is refused if its name is empty, or if it deletes a name that isn't set
abbrev pub is_refused : List ℕ → List Variable → Bool
is_refused text variables = length (name_in text) == 0
    || (is_deletion text && not (is_set (name_in text) variables))

-- the variables after a text that isn't refused
abbrev pub after_put : List ℕ → List Variable → List Variable
after_put text variables = if is_deletion text then without (name_in text) variables
    else with_value (name_in text) (value_in text) variables
