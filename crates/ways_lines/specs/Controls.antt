-- A control in brackets, as pam.conf(5) has it (which of several ways to write it is this project's
-- own): the entries of those codes that have another action than SYMBOL_ERR, which no configuration
-- names, and then `default`.
use Rattle.std.specs.Prelude.{ℕ, Bool, true, false, List, [], ◌++◌, codes, ◌==◌, if◌then◌else◌}
use Rattle.std.specs.Fmt.{decimal}
use Rattle.std.specs.List.{flat_map}
use Rattle.pam_base.specs.Code.{all_codes, code_word}
use Rattle.pam_base.specs.declared.code.Code.{Code}
use Rattle.pam_base.specs.declared.code.Code.TheVariants.{SymbolErr}
use Rattle.control_words.specs.declared.control.Action.{Action}
use Rattle.control_words.specs.declared.control.Action.TheVariants.{Ignore, Bad, Die, Ok, Done}
use Rattle.control_words.specs.declared.control.Action.TheVariants.{Reset, Jump}
use Rattle.control_words.specs.Control.{action_at, action_name}

-- the word of an action (pam.conf(5)), for a jump its number
abbrev pub action_word : Action → List ℕ
action_word (Jump number) = decimal number
action_word action = action_name action

abbrev pub same_action : Action → Action → Bool
same_action Ignore Ignore = true
same_action Bad Bad = true
same_action Die Die = true
same_action Ok Ok = true
same_action Done Done = true
same_action Reset Reset = true
same_action (Jump number) (Jump other) = number == other
same_action action other = false

-- the action of the codes that no configuration names
abbrev pub usual_action : List Action → Action
usual_action control = action_at control SymbolErr

-- CODE=ACTION and a space
unfoldable pub pair_text : Code → Action → List ℕ
pair_text code action = code_word code ++ (codes "=" ++ (action_word action ++ codes " "))

-- of a code, if its action is another one
abbrev pub entry_text : List Action → Code → List ℕ
entry_text control code = if same_action (action_at control code) (usual_action control) then []
    else pair_text code (action_at control code)

-- default=ACTION, and the last bracket
unfoldable pub default_text : Action → List ℕ
default_text action = codes "default=" ++ (action_word action ++ codes "]")

-- of several codes
unfoldable pub entries_text : List Action → List Code → List ℕ
entries_text control codes = flat_map (entry_text control) codes

unfoldable pub control_text : List Action → List ℕ
control_text control = codes "["
    ++ (entries_text control all_codes ++ default_text (usual_action control))
