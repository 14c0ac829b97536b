-- The types of rules (pam.conf(5): account, auth, password, session).
use Rattle.std.specs.Prelude.{ℕ, Bool, true, false, List, [], ◌∷◌, Option, None, codes, not, ◌&&◌, ◌==◌, if◌then◌else◌, option_map}
use Rattle.std.specs.List.{find}
use Rattle.std.specs.Str.{str_eq_ignore_ascii_case}
use Rattle.control_words.specs.conf_lex.specs.declared.token.Token.{Token}
use Rattle.service_load.specs.declared.rule_type.RuleType.{RuleType}
use Rattle.service_load.specs.declared.type_field.TypeField.{TypeField}
use Rattle.service_load.specs.declared.rule_type.RuleType.TheVariants.{Auth, Account, Password, Session}

-- the types in the order in which their stacks are made (this project's own)
abbrev pub all_types : List RuleType
all_types = Auth ∷ Account ∷ Password ∷ Session ∷ []

-- whether two types are the same (this project's own)
abbrev pub same_type : RuleType → RuleType → Bool
same_type Auth Auth = true
same_type Account Account = true
same_type Password Password = true
same_type Session Session = true
same_type a b = false

-- whether a token is this word, in any case and without brackets (pam.conf(5))
abbrev pub is_word : List ℕ → Token → Bool
is_word word token = not token.bracketed && str_eq_ignore_ascii_case token.text word

-- the word of a type (pam.conf(5))
abbrev pub type_word : RuleType → List ℕ
type_word Auth = codes "auth"
type_word Account = codes "account"
type_word Password = codes "password"
type_word Session = codes "session"

-- the type that a word names, in any case (pam.conf(5))
abbrev pub type_of_word : List ℕ → Option RuleType
type_of_word word = find (λ type. str_eq_ignore_ascii_case word (type_word type)) all_types

-- the type field that a word is: a type, and before it a `-` if no note is made of a missing module
-- (pam.conf(5))
abbrev pub type_field_of_word : List ℕ → Option TypeField
type_field_of_word [] = None
type_field_of_word (b ∷ bs) =
    if b == 45 then option_map (λ t. record { silent = true; rule_type = t }) (type_of_word bs)
    else option_map (λ t. record { silent = false; rule_type = t }) (type_of_word (b ∷ bs))

-- the type field that a token is (this project's own: it has no brackets)
abbrev pub type_field_of : Token → Option TypeField
type_field_of token = if token.bracketed then None else type_field_of_word token.text
