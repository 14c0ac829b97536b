use Rattle.report_lines.proofs.WordCutFacts.{before_at, before_none}
use Rattle.report_lines.proofs.words.before_last.Goals as goal

pub returns-then-n-gt0 : goal.returns-then-n-gt0
returns-then-n-gt0 c = before_at _ _ c.last_place-n.ensures.within c.last_place-n.ensures.none c.if-n-gt0.true (c.last_place-n.ensures.space c.if-n-gt0.true)

pub returns-else-n-gt0 : goal.returns-else-n-gt0
returns-else-n-gt0 c = before_none _ _ c.if-n-gt0.false c.last_place-n.ensures.none
