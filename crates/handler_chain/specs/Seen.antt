-- A recorded line, as the definitions of runs have it.
use Rattle.handler_chain.specs.declared.seen.RecordedLine.{RecordedLine}
use Rattle.handler_chain.specs.Retell as retell

abbrev pub seen_of : RecordedLine → retell.RecordedLine
seen_of v = retell.seen_at v.place v.name v.answer
