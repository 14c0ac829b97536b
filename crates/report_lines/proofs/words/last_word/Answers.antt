use Rattle.std.proofs.Common.{◌∙◌}
use Rattle.report_lines.proofs.WordCutFacts.{rest_is, last_at}
use Rattle.report_lines.proofs.words.last_word.Goals as goal

pub returns : goal.returns
returns c = rest_is c.args.text.now c.last_place-n.result ∙ last_at c.args.text.now c.last_place-n.result c.last_place-n.ensures.within c.last_place-n.ensures.none c.last_place-n.ensures.space
