use Rattle.laws_code.proofs.DebugCodeFacts.{probes}
use Rattle.laws_code.proofs.laws.probe_returns_each.Goals as goal

pub returns : goal.returns
returns c = probes
