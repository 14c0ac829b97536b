use Rattle.std.proofs.Common.{sym, ◌∙◌}
use Rattle.explain_origins.proofs.SingleRuleFacts.{at_include, none_ok, of_type_ok, to_ok}
use Rattle.explain_origins.proofs.step.step_by_type.Goals as goal

pub returns-then-is_include : goal.returns-then-is_include
returns-then-is_include c =
    to_ok _ _ _ (at_include c.args.rule_type c.args.line c.args.in_directory c.args.first.now c.args.rest.now (sym c.is_include.ensures ∙ c.if-is_include.true)) c.step_to.ensures

pub returns-then-is_field_of : goal.returns-then-is_field_of
returns-then-is_field_of c =
    of_type_ok _ c.args.line c.args.rule_type c.args.in_directory c.args.first.now c.args.rest.now (sym c.is_include.ensures ∙ c.if-is_include.false)
    (sym c.is_field_of.ensures ∙ c.if-is_field_of.true) c.step_after_type.ensures

pub returns : goal.returns
returns c =
    none_ok c.args.line c.args.rule_type c.args.in_directory c.args.first.now c.args.rest.now (sym c.is_include.ensures ∙ c.if-is_include.false)
    (sym c.is_field_of.ensures ∙ c.if-is_field_of.false)
