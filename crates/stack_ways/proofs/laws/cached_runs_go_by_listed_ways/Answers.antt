use Rattle.stack_ways.proofs.Again.{cached_runs, granted_runs}
use Rattle.stack_ways.proofs.laws.cached_runs_go_by_listed_ways.Goals as goal

pub returns-clause-ways : goal.returns-clause-ways
returns-clause-ways g c = cached_runs _

pub returns-clause-granted : goal.returns-clause-granted
returns-clause-granted g c = granted_runs _
