-- Each rule of a stack has one row (this project's own).
use Rattle.std.specs.Prelude.{◌≡◌, List, [], ◌∷◌, ◌++◌, map}
use Rattle.std.specs.List.{range_with_len}
use Rattle.pam_base.specs.declared.code.Code.{Code}
use Rattle.control_words.specs.declared.nodes.Rule.{Rule}
use Rattle.control_words.specs.Stack.{Stack, none, line, sub, lines_in}
use Rattle.handler_chain.specs.declared.pass_kind.PassKind.{PassKind}
use Rattle.handler_chain.specs.Retell.{Telling}
use Rattle.handler_chain.specs.Route.{KeptAnswers}
use Rattle.explain_lines.specs.declared.row.Row.{Row}
use Rattle.explain_calls.specs.Rows.{pass_rows}

-- the rules of a stack, those of its substacks included, in the order of their rule numbers
abbrev pub rules_in : Stack → List Rule
rules_in none = []
rules_in (line rule rest) = rule ∷ rules_in rest
rules_in (sub inner rest) = rules_in inner ++ rules_in rest

-- rows are those of a stack's rules: their rule numbers are 1, 2 and so on, and their paths those
-- of the rules
pub record AreOfRules (stack : Stack) (rows : List Row) : Type 0 where
  pub numbered : map (λ (r : Row). r.place) rows ≡ range_with_len 1 (lines_in stack)
  pub named : map (λ (r : Row). r.path) rows ≡ map (λ (rule : Rule). rule.path) (rules_in stack)

abbrev pub EachRuleHasOneRow : Type 0
EachRuleHasOneRow =
    (kind : PassKind) (kept : KeptAnswers) (stack : Stack) (past : List Code) (told : Telling) →
    AreOfRules stack (pass_rows kind kept stack past told)
