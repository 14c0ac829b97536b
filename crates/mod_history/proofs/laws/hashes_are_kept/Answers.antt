use Rattle.mod_history.proofs.LastHashesFacts.{kept_last}
use Rattle.mod_history.proofs.HistoryFileFacts.{does_one}
use Rattle.mod_history.proofs.HistoryCallsFacts.{calls_stand}
use Rattle.mod_history.proofs.laws.hashes_are_kept.Goals as goal

pub returns-clause-one : goal.returns-clause-one
returns-clause-one c = λ path call room held sight. does_one path call room held sight

pub returns-clause-all : goal.returns-clause-all
returns-clause-all c = λ path remember calls before after history some follow all stood. calls_stand remember some path calls before after history follow all stood

pub returns-clause-last : goal.returns-clause-last
returns-clause-last c = λ remember user deeds hashes some e. kept_last remember some user deeds hashes e
