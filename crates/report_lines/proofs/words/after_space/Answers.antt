use Rattle.std.proofs.Common.{◌+◌, sym, ◌∙◌}
use Rattle.report_lines.proofs.WordCutFacts.{the_rest-first, after_space-all, rest_is}
use Rattle.report_lines.proofs.words.after_space.Goals as goal

pub returns-in-Some : goal.returns-in-Some
returns-in-Some c = rest_is c.args.text.now (c.in-Some.n + 1) ∙ the_rest-first c.args.text.now c.in-Some.n c.in-Some.ensures

pub returns-in-None : goal.returns-in-None
returns-in-None c = sym (after_space-all c.args.text.now c.in-None.ensures)
