use Rattle.std.proofs.Common.{sym}
use Rattle.report_lines.proofs.WordCutFacts.{before-first, before_space-all}
use Rattle.report_lines.proofs.words.before_space.Goals as goal

pub returns-in-Some : goal.returns-in-Some
returns-in-Some c = before-first _ _ c.in-Some.ensures

pub returns-in-None : goal.returns-in-None
returns-in-None c = sym (before_space-all _ c.in-None.ensures)
