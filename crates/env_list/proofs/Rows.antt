-- Test cases, computed on the definitions.
use Rattle.std.proofs.Common.{◌≡◌, ℕ, true, false, List, [], ◌∷◌, map, Some, None, codes, refl}
use Rattle.env_list.specs.Environment.{Variable, value_of, after_put, is_refused, variable_text}

abbrev variable : List ℕ → List ℕ → Variable
variable name value = record { name = name; value = value }

-- `A=1`, `B=`, `A`, and `A` again
abbrev set_twice : List Variable
set_twice = after_put (codes "B=") (after_put (codes "A=1") [])

both : set_twice ≡ variable (codes "A") (codes "1") ∷ variable (codes "B") [] ∷ []
both = refl

abbrev deleted : List Variable
deleted = after_put (codes "A") set_twice

deletes : is_refused (codes "A") set_twice ≡ false
deletes = refl

left : deleted ≡ variable (codes "B") [] ∷ []
left = refl

again : is_refused (codes "A") deleted ≡ true
again = refl

empty_value : value_of (codes "B") deleted ≡ Some []
empty_value = refl

unset : value_of (codes "A") deleted ≡ None
unset = refl

listed : map variable_text deleted ≡ codes "B=" ∷ []
listed = refl

-- a name that is set keeps its place, and after a deletion the variables after it move up
abbrev three : List Variable
three = variable (codes "A") (codes "1") ∷ variable (codes "B") (codes "2") ∷ variable (codes "C") (codes "3") ∷ []

in_place : after_put (codes "A=4") three ≡ variable (codes "A") (codes "4") ∷ variable (codes "B") (codes "2") ∷ variable (codes "C") (codes "3") ∷ []
in_place = refl

closed_up : after_put (codes "A") three ≡ variable (codes "B") (codes "2") ∷ variable (codes "C") (codes "3") ∷ []
closed_up = refl

-- the first `=` ends the name, and an empty name is refused
value_with_equals : after_put (codes "A=b=c") [] ≡ variable (codes "A") (codes "b=c") ∷ []
value_with_equals = refl

no_name : is_refused (codes "=x") three ≡ true
no_name = refl

no_text : is_refused [] three ≡ true
no_text = refl
