use Rattle.mod_tally.proofs.TallyFileFacts.{does_one}
use Rattle.mod_tally.proofs.TallyCallsFacts.{calls_count, none_lost}
use Rattle.mod_tally.proofs.WrittenTallyFacts.{tally-read}
use Rattle.mod_tally.proofs.Wellformed.{on_file-fits}
use Rattle.mod_tally.proofs.laws.recorded_failures_are_kept.Goals as goal

pub returns-clause-one : goal.returns-clause-one
returns-clause-one c = does_one

pub returns-clause-all : goal.returns-clause-all
returns-clause-all c = λ path interval calls before after failures follow all stood. calls_count path interval tally-read calls before after failures follow all (on_file-fits before failures stood) stood

pub returns-clause-kept : goal.returns-clause-kept
returns-clause-kept c = none_lost
