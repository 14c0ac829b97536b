-- The four keywords, each with the control that it is short for by pam.conf(5).
use Rattle.std.specs.Prelude.{ℕ, List, [], ◌∷◌, Option, option_map, codes}
use Rattle.std.specs.List.{find}
use Rattle.std.specs.Str.{str_eq_ignore_ascii_case}
use Rattle.control_words.specs.declared.control.Action.{Action}
use Rattle.control_words.specs.declared.control.Action.TheVariants.{Ignore, Bad, Die, Ok, Done}
use Rattle.control_words.specs.declared.keywords.Keyword.{Keyword}
use Rattle.control_words.specs.declared.keywords.Keyword.TheVariants.{Required, Requisite, Sufficient, Optional}
use Rattle.control_words.specs.Control.{usual}

-- [success=ok new_authtok_reqd=ok ignore=ignore default=bad]
abbrev pub required : List Action
required = usual Ok Ignore Bad

-- [success=ok new_authtok_reqd=ok ignore=ignore default=die]
abbrev pub requisite : List Action
requisite = usual Ok Ignore Die

-- [success=done new_authtok_reqd=done default=ignore]
abbrev pub sufficient : List Action
sufficient = usual Done Ignore Ignore

-- [success=ok new_authtok_reqd=ok default=ignore]
abbrev pub optional : List Action
optional = usual Ok Ignore Ignore

-- the word of a keyword
abbrev pub keyword_word : Keyword → List ℕ
keyword_word Required = codes "required"
keyword_word Requisite = codes "requisite"
keyword_word Sufficient = codes "sufficient"
keyword_word Optional = codes "optional"

-- the control that a keyword is short for
abbrev pub keyword_control : Keyword → List Action
keyword_control Required = required
keyword_control Requisite = requisite
keyword_control Sufficient = sufficient
keyword_control Optional = optional

abbrev pub all_keywords : List Keyword
all_keywords = Required ∷ Requisite ∷ Sufficient ∷ Optional ∷ []

-- the keyword that a word is, in any case
abbrev pub keyword_of_word : List ℕ → Option Keyword
keyword_of_word word =
    find (λ keyword. str_eq_ignore_ascii_case word (keyword_word keyword)) all_keywords

-- the control that a word names
abbrev pub control_of_word : List ℕ → Option (List Action)
control_of_word word = option_map keyword_control (keyword_of_word word)
