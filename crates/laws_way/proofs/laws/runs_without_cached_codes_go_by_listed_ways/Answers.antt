use Rattle.laws_way.proofs.Alongside.{ends_by_ways, goes_as_first, loose_granted_by}
use Rattle.laws_way.proofs.laws.runs_without_cached_codes_go_by_listed_ways.Goals as goal

pub returns-clause-first : goal.returns-clause-first
returns-clause-first g c = goes_as_first _

pub returns-clause-ways : goal.returns-clause-ways
returns-clause-ways g c = ends_by_ways _

pub returns-clause-granted : goal.returns-clause-granted
returns-clause-granted g c = loose_granted_by _
