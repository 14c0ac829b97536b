-- The text of a run of a stack (this project's own): a line for each row, and one for its result.
use Rattle.std.specs.Prelude.{ℕ, zero, suc, Bool, true, false, ◌&&◌, nat_eq, if◌then◌else◌, List, [], ◌∷◌, ◌++◌, codes, slice_get, Option, Some, None}
use Rattle.std.specs.List.{flat_map}
use Rattle.std.specs.Fmt.{decimal}
use Rattle.pam_base.specs.declared.code.Code.{Code}
use Rattle.pam_base.specs.declared.call.Func.{Func}
use Rattle.pam_base.specs.declared.call.Func.TheVariants.{ChAuthTok}
use Rattle.pam_base.specs.Code.{name_of, number_of}
use Rattle.pam_base.specs.Quote.{quoted_text}
use Rattle.script_lang.specs.Command.{word_of_func}
use Rattle.control_words.specs.declared.control.Action.{Action}
use Rattle.control_words.specs.declared.control.Action.TheVariants.{Jump}
use Rattle.control_words.specs.Control.{action_name}
use Rattle.control_words.specs.Module.{name_of_module}
use Rattle.service_load.specs.declared.rule_type.RuleType.{RuleType}
use Rattle.service_load.specs.RuleType.{type_word}
use Rattle.handler_chain.specs.declared.impression.Impression.{Impression}
use Rattle.handler_chain.specs.declared.impression.Impression.TheVariants.{Undefined, Positive, Negative}
use Rattle.handler_chain.specs.declared.opinion.Opinion.{Opinion}
use Rattle.handler_chain.specs.declared.pass_kind.PassKind.{PassKind}
use Rattle.handler_chain.specs.declared.pass_kind.PassKind.TheVariants.{Keep, Follow, Loose}
use Rattle.handler_chain.specs.Opinion.{opening, verdict}
use Rattle.explain_lines.specs.declared.origin.Origin.{Origin}
use Rattle.explain_lines.specs.declared.row.Fate.{Fate}
use Rattle.explain_lines.specs.declared.row.Fate.TheVariants.{Ran, Waits, Jumped, Ended, Unreached}
use Rattle.explain_lines.specs.declared.row.Row.{Row}

-- ---- where a rule is written

-- the origin of the rule with this number
abbrev pub origin_at : List Origin → ℕ → Option Origin
origin_at origins zero = None
origin_at origins (suc i) = slice_get origins i

-- FILE:LINE
abbrev pub origin_words : Option Origin → List ℕ
origin_words None = codes "?"
origin_words (Some origin) = quoted_text origin.file ++ (codes ":" ++ decimal origin.line)

-- ---- what became of a line

abbrev pub action_words : Action → List ℕ
action_words (Jump n) = codes "jump " ++ decimal n
action_words action = action_name action

abbrev pub impression_word : Impression → List ℕ
impression_word Undefined = codes "undefined"
impression_word Positive = codes "positive"
impression_word Negative = codes "negative"

-- the state of a stack
abbrev pub state_words : Opinion → List ℕ
state_words o = impression_word o.impression ++ (codes " " ++ name_of o.status)

-- the code that picked the action, if it is another than the present one
abbrev pub deciding_words : Bool → Code → List ℕ
deciding_words true deciding = []
deciding_words false deciding = codes " (cached " ++ (name_of deciding ++ codes ")")

abbrev pub is_same : Code → Code → Bool
is_same a b = nat_eq (number_of a) (number_of b)

-- ACTION, STATE
abbrev pub made_words : Action → Opinion → List ℕ
made_words action state =
    codes ": " ++ (action_words action ++ (codes ", " ++ state_words state))

abbrev pub ran_words : Code → Code → Action → Opinion → List ℕ
ran_words answer deciding action state =
    codes " " ++ (name_of answer ++ (deciding_words (is_same answer deciding) deciding
    ++ made_words action state))

abbrev pub fate_words : Fate → List ℕ
fate_words (Ran answer deciding action state) = ran_words answer deciding action state
fate_words Waits = codes " INCOMPLETE: the call waits here"
fate_words (Jumped by) = codes ": not run, rule " ++ (decimal by ++ codes " jumps over it")
fate_words (Ended by) = codes ": not run, rule " ++ (decimal by ++ codes " ends the list")
fate_words Unreached = codes ": not run, the call waits"

-- RULE FILE:LINE MODULE
abbrev pub row_head : List Origin → Row → List ℕ
row_head origins r = codes "  " ++ (decimal r.place ++ (codes " "
    ++ (origin_words (origin_at origins r.place) ++ (codes " "
    ++ quoted_text (name_of_module r.path)))))

abbrev pub row_text : List Origin → Row → List ℕ
row_text origins r = row_head origins r ++ (fate_words r.fate ++ codes "\n")

-- ---- the result

-- how far the rows of a run have come: the state, which rule made it so, and which rule waits
abbrev pub is_same_impression : Impression → Impression → Bool
is_same_impression Undefined Undefined = true
is_same_impression Positive Positive = true
is_same_impression Negative Negative = true
is_same_impression a b = false

abbrev pub is_same_state : Opinion → Opinion → Bool
is_same_state a b = is_same_impression a.impression b.impression && is_same a.status b.status

-- the rule that set the state last, if there is one
abbrev pub decider_words : Option ℕ → List ℕ
decider_words None = codes ", no rule counted\n"
decider_words (Some by) = codes ", decided by rule " ++ (decimal by ++ codes "\n")

-- the result of a run: its code, by the rule that set the state last; or it waits at a rule
abbrev pub decided_text : Opinion → Option ℕ → List ℕ
decided_text o by = codes "  returns " ++ (name_of (verdict o) ++ decider_words by)

abbrev pub waits_text : ℕ → List ℕ
waits_text at = codes "  returns INCOMPLETE, waits at rule " ++ (decimal at ++ codes "\n")

-- the rule that set the state last
abbrev pub decider : Bool → ℕ → Option ℕ → Option ℕ
decider true at by = by
decider false at by = Some at

-- after a row, if `next` is what follows the state and that rule
abbrev pub end_with : Fate → ℕ → Opinion → Option ℕ → (Opinion → Option ℕ → List ℕ) → List ℕ
end_with (Ran answer deciding action state) at o by next =
    next state (decider (is_same_state o state) at by)
end_with Waits at o by next = waits_text at
end_with (Jumped rule) at o by next = next o by
end_with (Ended rule) at o by next = next o by
end_with Unreached at o by next = next o by

abbrev pub end_from : Opinion → Option ℕ → List Row → List ℕ
end_from o by [] = decided_text o by
end_from o by (r ∷ rs) = end_with r.fate r.place o by (λ state rule. end_from state rule rs)

abbrev pub end_text : List Row → List ℕ
end_text rows = end_from opening None rows

-- ---- a run

abbrev pub kind_words : Func → PassKind → List ℕ
kind_words ChAuthTok Keep = codes " stack, first pass\n"
kind_words ChAuthTok Follow = codes " stack, second pass\n"
kind_words func Keep = codes " stack\n"
kind_words func Follow = codes " stack, by cached codes\n"
kind_words func Loose = codes " stack, without cached codes\n"

-- TYPE stack
abbrev pub stack_words : Func → RuleType → PassKind → List ℕ
stack_words func type kind = codes ": " ++ (type_word type ++ kind_words func kind)

-- H CALL: TYPE stack
abbrev pub head_text : ℕ → Func → RuleType → PassKind → List ℕ
head_text number func type kind =
    decimal number ++ (codes " " ++ (word_of_func func ++ stack_words func type kind))

abbrev pub pass_text : ℕ → Func → RuleType → PassKind → List Origin → List Row → List ℕ
pass_text number func type kind origins rows =
    head_text number func type kind ++ (flat_map (row_text origins) rows ++ end_text rows)
