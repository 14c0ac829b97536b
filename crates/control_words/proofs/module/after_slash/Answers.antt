use Rattle.control_words.proofs.Paths.{last_part-rest, last_part-none}
use Rattle.control_words.proofs.module.after_slash.Goals as goal

pub returns-in-Some-clause-same_end : goal.returns-in-Some-clause-same_end
returns-in-Some-clause-same_end c = last_part-rest _ _ c.in-Some.ensures

pub returns-in-None-clause-none : goal.returns-in-None-clause-none
returns-in-None-clause-none c = last_part-none _ c.in-None.ensures
