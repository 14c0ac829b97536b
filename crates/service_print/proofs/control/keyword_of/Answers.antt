use Rattle.std.proofs.Common.{ap, ◌∙◌}
use Rattle.std.specs.Prelude.{option_map}
use Rattle.control_words.specs.Keyword.{keyword_word}
use Rattle.service_print.proofs.Keywords.{keyword_words}
use Rattle.service_print.proofs.control.keyword_of.Goals as goal

pub returns : goal.returns
returns c = ap (option_map keyword_word) c.keyword_among.ensures ∙ keyword_words c.args.control.now
