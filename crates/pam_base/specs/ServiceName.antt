-- Names of services (this project's own: a name is that of a file of pam.d(5), so it has no slash).
use Rattle.std.specs.Prelude.{ℕ, ◌&&◌, ◌||◌, ◌==◌, not, Bool, List, length, codes, nat_le, nat_lt}
use Rattle.std.specs.Str.{bytes_eq}
use Rattle.std.specs.Char.{is_ascii_alphanumeric}
use Rattle.std.specs.List.{list_all}

abbrev pub is_name_byte : ℕ → Bool
is_name_byte b = is_ascii_alphanumeric b || b == 45 || b == 95 || b == 46

-- 1 to 64 letters, digits, -, _ and ., but neither . nor ..
abbrev pub is_service_name : List ℕ → Bool
is_service_name name = nat_lt 0 (length name) && nat_le (length name) 64
    && list_all is_name_byte name && not (bytes_eq name (codes "."))
    && not (bytes_eq name (codes ".."))
