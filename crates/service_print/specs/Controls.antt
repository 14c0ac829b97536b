-- How a control is written (pam.conf(5), "the control field"; which of several ways is taken is this project's own).
use Rattle.std.specs.Prelude.{ℕ, Bool, true, false, List, [], ◌∷◌, ◌++◌, map, codes, decimal, Option, Some, None, ◌==◌, not}
use Rattle.std.specs.List.{filter, find, list_all}
use Rattle.std.specs.Option.{unwrap_or}
use Rattle.pam_base.specs.Code.{all_codes, code_word}
use Rattle.pam_base.specs.declared.code.Code.{Code}
use Rattle.control_words.specs.declared.control.Action.{Action}
use Rattle.control_words.specs.declared.control.Action.TheVariants.{Ignore, Bad, Die, Ok, Done, Reset, Jump}
use Rattle.control_words.specs.Control.{action_at, action_name}
use Rattle.control_words.specs.Keyword.{all_keywords, control_of_word, keyword_word}
use Rattle.service_print.specs.Tokens.{spaced}

-- the word of an action (pam.conf(5)), for a jump its number
abbrev pub action_word : Action → List ℕ
action_word (Jump number) = decimal number
action_word action = action_name action

abbrev pub same_action : Action → Action → Bool
same_action Ignore Ignore = true
same_action Bad Bad = true
same_action Die Die = true
same_action Ok Ok = true
same_action Done Done = true
same_action Reset Reset = true
same_action (Jump number) (Jump other) = number == other
same_action action other = false

-- whether two controls have the same action for each code
unfoldable pub same_control : List Action → List Action → Bool
same_control control other =
    list_all (λ code. same_action (action_at control code) (action_at other code)) all_codes

-- whether a keyword is short for a control (pam.conf(5))
abbrev pub is_keyword_for : List ℕ → List Action → Bool
is_keyword_for word control = elim (control_of_word word) [
  | Some table ↦ same_control control table
  | None ↦ false
]

-- the keyword that is short for a control, if there is one
abbrev pub keyword_of : List Action → Option (List ℕ)
keyword_of control = find (λ word. is_keyword_for word control) (map keyword_word all_keywords)

-- the entry of a code (pam.conf(5))
abbrev pub entry_text : List Action → Code → List ℕ
entry_text control code = code_word code ++ 61 ∷ action_word (action_at control code)

-- whether a code has an entry: one without an entry is bad
abbrev pub has_entry : List Action → Code → Bool
has_entry control code = not (same_action (action_at control code) Bad)

-- the entries of these codes, as far as they have one
unfoldable pub entries_among : List Action → List Code → List (List ℕ)
entries_among control codes = map (entry_text control) (filter (has_entry control) codes)

-- a control: the keyword that is short for it, else its entries, in the order of the codes'
-- numbers, in brackets
unfoldable pub control_text : List Action → List ℕ
control_text control =
    unwrap_or (keyword_of control) (91 ∷ (spaced (entries_among control all_codes) ++ 93 ∷ []))
