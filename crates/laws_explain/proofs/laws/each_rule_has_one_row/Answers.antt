use Rattle.laws_explain.proofs.LineRowFacts.{each_rule_has_one_row}
use Rattle.laws_explain.proofs.laws.each_rule_has_one_row.Goals as goal

pub returns : goal.returns
returns c = each_rule_has_one_row
