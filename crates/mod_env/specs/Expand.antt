-- What a value of pam_env.conf(5) expands to.
--
-- Its steps:
--   `expansion_of`, `puts_unless_too_long`: neither value may be too long
--   `put_text`, `put_default`: which of them is taken
--   `expanded`, `piece_text`: a value's pieces
use Rattle.std.specs.Prelude.{ℕ, Bool, false, ◌||◌, nat_lt, if◌then◌else◌, List, [], ◌∷◌, ◌++◌, length, Option, Some, None, unwrap_or, codes}
use Rattle.std.specs.List.{flat_map, list_any}
use Rattle.std.specs.Option.{option_copied}
use Rattle.std.specs.Str.{bytes_eq}
use Rattle.env_list.specs.Environment.{Variable, value_of}
use Rattle.item_store.specs.Items.{ItemTexts}
use Rattle.account_db.specs.declared.passwd.Passwd.{Passwd}
use Rattle.mod_env.specs.declared.value.Piece.{Piece}
use Rattle.mod_env.specs.declared.value.Piece.TheVariants as pieces
use Rattle.mod_env.specs.declared.conf.EnvLine.{EnvLine}
use Rattle.mod_env.specs.declared.expand.Sources.{Sources as LentSources}
use Rattle.mod_env.specs.declared.expand.Expansion.{Expansion}
use Rattle.mod_env.specs.declared.expand.Expansion.TheVariants.{TooLong, Puts}

-- what a value may name: items, variables, and the user's entry in passwd if it exists
pub record Sources : Type 0 where
  pub items : ItemTexts
  pub env : List Variable
  pub entry : Option Passwd

abbrev pub home_of : Option Passwd → List ℕ
home_of (Some entry) = entry.home
home_of None = []

abbrev pub shell_of : Option Passwd → List ℕ
shell_of (Some entry) = entry.shell
shell_of None = []

-- `@{X}`: an item that is unset, and any other name, is empty
abbrev pub item_value : List ℕ → Sources → List ℕ
item_value name from =
    if bytes_eq name (codes "PAM_USER") then unwrap_or from.items.user []
    else if bytes_eq name (codes "PAM_TTY") then unwrap_or from.items.tty []
    else if bytes_eq name (codes "PAM_RHOST") then unwrap_or from.items.rhost []
    else if bytes_eq name (codes "PAM_RUSER") then unwrap_or from.items.ruser []
    else if bytes_eq name (codes "PAM_USER_PROMPT") then unwrap_or from.items.user_prompt []
    else if bytes_eq name (codes "HOME") then home_of from.entry
    else if bytes_eq name (codes "SHELL") then shell_of from.entry
    else []

-- `${X}`: a variable that is unset is empty
abbrev pub piece_text : Sources → Piece → List ℕ
piece_text from (pieces.Byte b) = b ∷ []
piece_text from (pieces.Variable name) = unwrap_or (value_of name from.env) []
piece_text from (pieces.Item name) = item_value name from

abbrev pub expanded : Sources → List Piece → List ℕ
expanded from value = flat_map (piece_text from) value

-- a value has at most 1,024 bytes
abbrev pub fitting : List ℕ → Option (List ℕ)
fitting text = if nat_lt 1024 (length text) then None else Some text

-- ---- a variable

-- an overriding value is taken if it isn't empty, else the default, else the variable is deleted; as an argument of
-- pam_putenv(3)
abbrev pub put_default : List ℕ → Option (List ℕ) → List ℕ
put_default name (Some text) = name ++ 61 ∷ text
put_default name None = name

abbrev pub put_text : List ℕ → Option (List ℕ) → Option (List ℕ) → List ℕ
put_text name default None = put_default name default
put_text name default (Some []) = put_default name default
put_text name default (Some (b ∷ bs)) = name ++ 61 ∷ b ∷ bs

-- the text of a value that is given, or that it is too long
abbrev pub fitted : Option (List ℕ) → Option (Option (List ℕ))
fitted (Some text) = Some (Some text)
fitted None = None

abbrev pub value_text : Sources → Option (List Piece) → Option (Option (List ℕ))
value_text from (Some value) = fitted (fitting (expanded from value))
value_text from None = Some None

abbrev pub puts_unless_too_long : List ℕ → Option (Option (List ℕ)) → Option (Option (List ℕ)) → Expansion
puts_unless_too_long name (Some default) (Some over) = Puts (put_text name default over)
puts_unless_too_long name (Some default) None = TooLong
puts_unless_too_long name None over = TooLong

-- the result for a variable; a value that is too long counts even if it isn't taken
unfoldable pub expansion_of : EnvLine → Sources → Expansion
expansion_of entry from = puts_unless_too_long entry.name (value_text from entry.values.default)
    (value_text from entry.values.overriding)

-- ---- the account

-- whether a piece needs the user's account
abbrev pub names_account : Piece → Bool
names_account (pieces.Byte b) = false
names_account (pieces.Variable name) = false
names_account (pieces.Item name) = bytes_eq name (codes "HOME") || bytes_eq name (codes "SHELL")

abbrev pub value_names_account : Option (List Piece) → Bool
value_names_account (Some value) = list_any names_account value
value_names_account None = false

-- one of the values does, whether it is used or not
abbrev pub asks_account : EnvLine → Bool
asks_account entry =
    value_names_account entry.values.default || value_names_account entry.values.overriding

-- the plain values of the code's types
abbrev pub plain_sources : LentSources → Sources
plain_sources s = record { items = s.items.now; env = s.env.now; entry = option_copied s.entry }
