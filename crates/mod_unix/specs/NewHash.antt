-- The hash of a new token, and the setting under which it is made (pam_unix(8), crypt(5)).
use Rattle.std.specs.Prelude.{ℕ, max, min, if◌then◌else◌, List, [], ◌++◌, Option, Some, None, Result, Ok, Err, codes, decimal}
use Rattle.pam_room.specs.Call.{value_among}
use Rattle.sha_crypt.specs.Characters.{characters}
use Rattle.sha_crypt.specs.Hash.{crypted}
use Rattle.sha_crypt.specs.declared.setting.SettingFault.{SettingFault}
use Rattle.module_acts.specs.Arguments.{has_argument, short_number}

-- SHA-256 with `sha256`, else SHA-512
abbrev pub method_text : List (List ℕ) → List ℕ
method_text args = if has_argument (codes "sha256") args then codes "$5$" else codes "$6$"

abbrev pub rounds_of : Option ℕ → List ℕ
rounds_of (Some rounds) = codes "rounds=" ++ decimal (max 1000 (min rounds 1000000)) ++ codes "$"
rounds_of None = []

-- the number has at most nine digits; any other text counts as none
abbrev pub rounds_in : Option (List ℕ) → List ℕ
rounds_in (Some word) = rounds_of (short_number 9 word)
rounds_in None = []

-- the salt is eight characters of a random word
unfoldable pub new_setting : List (List ℕ) → ℕ → List ℕ
new_setting args word =
    method_text args ++ rounds_in (value_among (codes "rounds=") args) ++ characters 8 word

-- the hash that was made; a new setting has no fault, so there is one
abbrev pub made_hash : Result (List ℕ) SettingFault → List ℕ
made_hash (Ok hash) = hash
made_hash (Err fault) = []

-- the hash of a token under a new setting
unfoldable pub hashed_token : List (List ℕ) → ℕ → List ℕ → List ℕ
hashed_token args word token = made_hash (crypted (new_setting args word) token)
