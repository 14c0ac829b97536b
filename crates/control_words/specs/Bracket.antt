-- Controls as they are written (pam.conf(5), "the control field"): a keyword, or a list of entries
-- `name=action` in brackets.
use Rattle.std.specs.Prelude.{ℕ, Bool, true, false, List, [], ◌∷◌, length, map, codes, Option, Some, None, Result, Ok, Err, ◌==◌, ◌&&◌, ◌||◌, not, nat_le, if◌then◌else◌}
use Rattle.std.specs.Char.{is_ascii_digit}
use Rattle.std.specs.List.{filter, filter_map, last_or, list_all}
use Rattle.std.specs.Option.{is_some, ok_or, option_and_then, option_or, unwrap_or}
use Rattle.std.specs.Result.{result_ok, result_err}
use Rattle.std.specs.Str.{str_eq_ignore_ascii_case}
use Rattle.pam_base.specs.Code.{all_codes, code_of_word, number_of}
use Rattle.pam_base.specs.Number.{value_of_digits}
use Rattle.pam_base.specs.declared.code.Code.{Code}
use Rattle.pam_base.specs.declared.fault.FaultKind.{FaultKind}
use Rattle.pam_base.specs.declared.fault.FaultKind.TheVariants.{BadControl, BadReturnName, BadAction, ZeroJump}
use Rattle.control_words.specs.declared.bracket.ControlFault.{ControlFault}
use Rattle.control_words.specs.declared.control.Action.{Action}
use Rattle.control_words.specs.declared.control.Action.TheVariants as actions
use Rattle.control_words.specs.Entries.{ControlPair, entries_in}
use Rattle.control_words.specs.Keyword.{control_of_word}

-- a fault by its kind (this project's own)
abbrev pub fault : FaultKind → ControlFault
fault kind = record { kind = kind }

-- the words of actions, in any case (pam.conf(5))
abbrev pub named_action : List ℕ → Option Action
named_action word =
    if str_eq_ignore_ascii_case word (codes "ignore") then Some actions.Ignore
    else if str_eq_ignore_ascii_case word (codes "bad") then Some actions.Bad
    else if str_eq_ignore_ascii_case word (codes "die") then Some actions.Die
    else if str_eq_ignore_ascii_case word (codes "ok") then Some actions.Ok
    else if str_eq_ignore_ascii_case word (codes "done") then Some actions.Done
    else if str_eq_ignore_ascii_case word (codes "reset") then Some actions.Reset
    else None

-- a jump is over 1 to 255 nodes (pam.conf(5) asks for a number above 0; the bound is this project's own)
abbrev pub jump_of : ℕ → Result Action ControlFault
jump_of number = if number == 0 then Err (fault ZeroJump) else if nat_le number 255
    then Ok (actions.Jump number) else Err (fault BadAction)

-- an action is one of the words or the digits of a jump (pam.conf(5)), with leading zeros (this project's own)
abbrev pub action_of_word : List ℕ → Result Action ControlFault
action_of_word word = elim (named_action word) [
  | Some action ↦ Ok action
  | None ↦ if not (length word == 0) && list_all is_ascii_digit word
      then jump_of (value_of_digits word) else Err (fault BadAction)
]

-- `default`, in any case, is for the codes that no entry names (pam.conf(5))
abbrev pub is_default : List ℕ → Bool
is_default name = str_eq_ignore_ascii_case name (codes "default")

-- whether a name, by the code that it is the word of, names the code (pam.conf(5))
abbrev pub is_code : Code → Option Code → Bool
is_code code None = false
is_code code (Some named) = number_of named == number_of code

-- whether a name is a word of the code (pam.conf(5))
abbrev pub names : Code → List ℕ → Bool
names code name = is_code code (code_of_word name)

-- what is wrong with an entry; the order of the causes is this project's own
abbrev pub fault_of_entry : ControlPair → Option ControlFault
fault_of_entry entry =
    if length entry.name == 0 || length entry.action == 0 then Some (fault BadControl)
    else if is_default entry.name || is_some (code_of_word entry.name)
    then result_err (action_of_word entry.action)
    else Some (fault BadReturnName)

-- the action of the last entry whose name passes the test (that the last one holds is this project's own)
abbrev pub last_action : (List ℕ → Bool) → List ControlPair → Option Action
last_action test entries =
    option_and_then (λ entry. result_ok (action_of_word entry.action))
    (last_or None (filter (λ entry. test entry.name) entries))

-- the action of a code: that of the last entry that names it, else that of the last `default` (pam.conf(5)),
-- else bad (this project's own)
abbrev pub action_among : List ControlPair → Code → Action
action_among entries code =
    unwrap_or (option_or (last_action (names code) entries) (last_action is_default entries))
    actions.Bad

-- the control of some entries if none has a fault, else the first of the faults (this project's
-- own)
abbrev pub control_unless : List ControlFault → List ControlPair → Result (List Action) ControlFault
control_unless [] entries = Ok (map (action_among entries) all_codes)
control_unless (first ∷ more) entries = Err first

-- the control of some entries, each code looked up in all of them, or the fault of the first that has one
-- (this project's own)
abbrev pub control_of_entries : List ControlPair → Result (List Action) ControlFault
control_of_entries entries = control_unless (filter_map fault_of_entry entries) entries

-- the control that a token names, from its text and whether it is bracketed (pam.conf(5)); a word
-- outside brackets is a keyword
abbrev pub control_of : Bool → List ℕ → Result (List Action) ControlFault
control_of true text = control_of_entries (entries_in text)
control_of false text = ok_or (control_of_word text) (fault BadControl)
