use Rattle.explain_origins.proofs.SingleRuleFacts.{meant_ok}
use Rattle.explain_origins.proofs.files.step_in.Goals as goal

pub returns-in-Some : goal.returns-in-Some
returns-in-Some c = meant_ok _ c.args.rule_type _ _ _ _ c.in-Some.ensures (rw c.is_in_directory.ensures at c.step_of.ensures)
