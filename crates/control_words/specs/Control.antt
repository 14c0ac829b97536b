-- Controls (pam.conf(5), "the control field"): a list of 32 actions, in the order of the codes' numbers.
use Rattle.std.specs.Prelude.{ℕ, List, [], map, slice_index_or, codes as text}
use Rattle.pam_base.specs.declared.code.Code.{Code}
use Rattle.pam_base.specs.declared.code.Code.TheVariants as codes
use Rattle.pam_base.specs.Code.{number_of, all_codes}
use Rattle.control_words.specs.declared.control.Action.{Action}
use Rattle.control_words.specs.declared.control.Action.TheVariants.{Ignore, Bad, Die, Ok, Done, Reset, Jump}

-- the word of an action; a jump has none (pam.conf(5))
abbrev pub action_name : Action → List ℕ
action_name Ignore = text "ignore"
action_name Bad = text "bad"
action_name Die = text "die"
action_name Ok = text "ok"
action_name Done = text "done"
action_name Reset = text "reset"
action_name (Jump number) = []

-- the action that a control has for a code; every control has one for each
abbrev pub action_at : List Action → Code → Action
action_at control code = slice_index_or control (number_of code) Bad

-- one action for SUCCESS and NEW_AUTHTOK_REQD, one for IGNORE, and one for every other code
abbrev pub usual_action : Action → Action → Action → Code → Action
usual_action good passed other codes.Success = good
usual_action good passed other codes.NewAuthtokReqd = good
usual_action good passed other codes.Ignore = passed
usual_action good passed other code = other

abbrev pub usual : Action → Action → Action → List Action
usual good passed other = map (usual_action good passed other) all_codes
