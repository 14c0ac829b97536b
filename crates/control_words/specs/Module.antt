-- The name of a module (this project's own): the last part of its path, with `.so` taken off.
use Rattle.std.specs.Prelude.{ℕ, ◌-◌, List, [], ◌∷◌, length, take, codes, nat_eq, if◌then◌else◌}
use Rattle.std.specs.List.{ends_with}
use Rattle.pam_base.specs.Bytes.{has_byte}

-- what follows the last slash, or everything if there is none
abbrev pub last_part : List ℕ → List ℕ
last_part [] = []
last_part (b ∷ bs) = if has_byte 47 (b ∷ bs) then last_part bs else b ∷ bs

abbrev pub without_suffix : List ℕ → List ℕ → List ℕ
without_suffix suffix name = if ends_with nat_eq name suffix
    then take (length name - length suffix) name else name

abbrev pub name_of_module : List ℕ → List ℕ
name_of_module path = without_suffix (codes ".so") (last_part path)
