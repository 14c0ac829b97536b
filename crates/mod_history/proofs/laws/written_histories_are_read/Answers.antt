use Rattle.mod_history.proofs.WrittenHistoryFacts.{history_read}
use Rattle.mod_history.proofs.Wellformed.{read_fits}
use Rattle.mod_history.proofs.laws.written_histories_are_read.Goals as goal

pub returns-clause-written : goal.returns-clause-written
returns-clause-written c = history_read

pub returns-clause-read : goal.returns-clause-read
returns-clause-read c = read_fits
