-- Runs that the laws are about, computed: what is shown of them ends with their code.
use Rattle.std.specs.Prelude.{◌≡◌, ℕ, false, List, [], ◌∷◌, None, codes, map, refl}
use Rattle.pam_base.specs.declared.code.Code.{Code}
use Rattle.pam_base.specs.declared.code.Code.TheVariants as results
use Rattle.pam_base.specs.Code.{all_codes}
use Rattle.control_words.specs.declared.control.Action.{Action}
use Rattle.control_words.specs.declared.control.Action.TheVariants as actions
use Rattle.control_words.specs.declared.nodes.Rule.{Rule}
use Rattle.control_words.specs.Keyword.{required, sufficient}
use Rattle.control_words.specs.Module.{name_of_module}
use Rattle.control_words.specs.Stack.{Stack, none, line, sub}
use Rattle.handler_chain.specs.declared.pass_kind.PassKind.TheVariants as kinds
use Rattle.handler_chain.specs.Pass.{pass_after}
use Rattle.handler_chain.specs.Retell.{RecordedLine, replaying, seen_at, telling}
use Rattle.handler_chain.specs.Walk.{code_of}
use Rattle.explain_lines.specs.declared.row.Row.{Row}
use Rattle.explain_lines.specs.Text.{end_text}
use Rattle.explain_calls.specs.Rows.{pass_rows}
use Rattle.laws_explain.specs.Codes.{by_rule, return_line, waits_at}

abbrev controlled : List Action → Rule
controlled control = record { silent = false; control = control; path = codes "pam_x.so"; args = [] }

abbrev always : Action → List Action
always action = map (λ (c : Code). action) all_codes

abbrev seen : ℕ → Code → RecordedLine
seen place answer = seen_at place (name_of_module (codes "pam_x.so")) answer

abbrev shown : Stack → List RecordedLine → List Row
shown stack told = pass_rows kinds.Keep (λ place. None) stack [] (telling told)

abbrev code : Stack → List RecordedLine → Code
code stack told = code_of (pass_after kinds.Keep (λ place. None) replaying stack [] (telling told))

abbrev two : Stack
two = line (controlled required) (line (controlled sufficient) none)

denied : end_text (shown two (seen 1 results.AuthErr ∷ seen 2 results.Success ∷ [])) ≡ return_line results.AuthErr (by_rule 1)
denied = refl

denied_code : code two (seen 1 results.AuthErr ∷ seen 2 results.Success ∷ []) ≡ results.AuthErr
denied_code = refl

-- a line without a recorded one is where the replay waits
waits : end_text (shown two (seen 1 results.Success ∷ [])) ≡ return_line results.Incomplete (waits_at 2)
waits = refl

-- a jump over a substack, whose rules have rows, too
abbrev jumping : Stack
jumping = line (controlled (always (actions.Jump 1))) (sub two (line (controlled required) none))

jumped : end_text (shown jumping (seen 1 results.AuthErr ∷ seen 4 results.Success ∷ [])) ≡ return_line results.Success (by_rule 4)
jumped = refl

each_row : map (λ (r : Row). r.place) (shown jumping (seen 1 results.AuthErr ∷ seen 4 results.Success ∷ [])) ≡ 1 ∷ 2 ∷ 3 ∷ 4 ∷ []
each_row = refl
