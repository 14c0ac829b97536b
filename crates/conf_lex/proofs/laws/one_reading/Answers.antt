use Rattle.std.proofs.Common.{sym}
use Rattle.conf_lex.proofs.Once.{one_reading}
use Rattle.conf_lex.proofs.Every.{reading_is}
use Rattle.conf_lex.proofs.laws.one_reading.Goals as goal

pub returns-clause-reading : goal.returns-clause-reading
returns-clause-reading c = reading_is

pub returns-clause-only : goal.returns-clause-only
returns-clause-only c = λ text pieces r. sym (one_reading text pieces r)
