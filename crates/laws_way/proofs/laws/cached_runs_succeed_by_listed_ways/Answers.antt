use Rattle.laws_way.proofs.Again.{cached_granted_by}
use Rattle.laws_way.proofs.laws.cached_runs_succeed_by_listed_ways.Goals as goal

pub returns : goal.returns
returns g c = cached_granted_by _
