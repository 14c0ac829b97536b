-- Whether a token is the user's (crypt(3), shadow(5)).
--
-- Its steps:
--   `verified`: by what is known of the password
--   `hash_verified`: a locked hash matches nothing
--   `hash_compared`: the hash that was made with the user's
use Rattle.std.specs.Prelude.{ℕ, Bool, true, ◌==◌, ◌||◌, nat_lt, if◌then◌else◌, List, [], ◌∷◌, length, Result, Ok, Err}
use Rattle.std.specs.Str.{bytes_eq}
use Rattle.pam_base.specs.declared.code.Code.{Code}
use Rattle.pam_base.specs.declared.code.Code.TheVariants as returns
use Rattle.sha_crypt.specs.declared.setting.SettingFault.{SettingFault}
use Rattle.sha_crypt.specs.Hash.{crypted}
use Rattle.mod_unix.specs.declared.look.KnownPassword.{KnownPassword}
use Rattle.mod_unix.specs.declared.look.KnownPassword.TheVariants.{Unknown, Unavailable, Plain, Shadowed}

-- no token matches a hash that is empty or begins with ! or *
abbrev pub is_locked : List ℕ → Bool
is_locked [] = true
is_locked (b ∷ bs) = b == 33 || b == 42

abbrev pub hash_compared : List ℕ → Result (List ℕ) SettingFault → Code
hash_compared hash (Ok made) = if bytes_eq made hash then returns.Success else returns.AuthErr
hash_compared hash (Err fault) = returns.AuthinfoUnavail

-- a token is the user's if its hash, with the user's hash as the setting, is the user's hash; a token of more than 512
-- bytes isn't
unfoldable pub hash_verified : List ℕ → List ℕ → Code
hash_verified hash token = if is_locked hash || nat_lt 512 (length token) then returns.AuthErr
    else hash_compared hash (crypted hash token)

abbrev pub verified : KnownPassword → List ℕ → Code
verified Unknown token = returns.UserUnknown
verified Unavailable token = returns.AuthinfoUnavail
verified (Plain hash) token = hash_verified hash token
verified (Shadowed entry) token = hash_verified entry.hash token
