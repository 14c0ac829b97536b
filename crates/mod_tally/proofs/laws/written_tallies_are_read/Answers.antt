use Rattle.mod_tally.proofs.Fresh.{fresh}
use Rattle.mod_tally.proofs.WrittenTallyFacts.{tally-read}
use Rattle.mod_tally.proofs.SourceSpellingFacts.{unspelled-spelled}
use Rattle.mod_tally.proofs.UniqueSpellingFacts.{unspelled-exact}
use Rattle.mod_tally.proofs.Wellformed.{read-fits}
use Rattle.mod_tally.proofs.laws.written_tallies_are_read.Goals as goal

pub returns-clause-tally : goal.returns-clause-tally
returns-clause-tally c = tally-read

pub returns-clause-source : goal.returns-clause-source
returns-clause-source c = unspelled-spelled

pub returns-clause-read : goal.returns-clause-read
returns-clause-read c = read-fits

pub returns-clause-spelling : goal.returns-clause-spelling
returns-clause-spelling c = λ word source e. let exact = unspelled-exact word source e in (exact.text, exact.bytes)

pub returns-clause-new : goal.returns-clause-new
returns-clause-new c = λ moment items small host tty service there. fresh moment small _ _ _ host tty service there
