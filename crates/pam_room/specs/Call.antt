-- A call of a module: which function, its flags, and the arguments of its line (pam(3), pam.conf(5)).
use Rattle.std.specs.Prelude.{ℕ, Bool, nat_lt, nat_eq, bit_and, if◌then◌else◌, Option, Some, None, List, length, drop}
use Rattle.std.specs.List.{starts_with, filter_map, last_or}
use Rattle.pam_base.specs.declared.call.Func.{Func}

pub record PlainCall : Type 0 where
  pub func : Func
  pub flags : ℕ
  pub args : List (List ℕ)

-- whether the flags hold this one
abbrev pub has_flag : ℕ → ℕ → Bool
has_flag flags flag = nat_lt 0 (bit_and flags flag)

-- PAM_PRELIM_CHECK, the flag of the first pass of a change of token (pam_chauthtok(3))
abbrev pub prelim_check : ℕ
prelim_check = 0x4000

-- what follows a key at the beginning of an argument
abbrev pub value_in : List ℕ → List ℕ → Option (List ℕ)
value_in key arg = if starts_with nat_eq arg key then Some (drop (length key) arg) else None

-- what follows a key among the arguments; if the key is repeated the last one holds
abbrev pub value_among : List ℕ → List (List ℕ) → Option (List ℕ)
value_among key args = last_or None (filter_map (value_in key) args)
