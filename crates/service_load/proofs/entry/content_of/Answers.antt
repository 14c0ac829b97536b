use Rattle.std.proofs.Common.{sym}
use Rattle.service_load.proofs.KindLemmas.{control_kind}
use Rattle.service_load.proofs.entry.content_of.Goals as goal

pub returns-in-Err-clause-kinds : goal.returns-in-Err-clause-kinds
returns-in-Err-clause-kinds c = control_kind c.first-item.result.bracketed c.first-item.result.text c.in-Err.fault (sym c.in-Err.ensures)
