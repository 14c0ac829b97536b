use Rattle.laws_way.proofs.CallCodeFacts.{authentication_caches, calls_granted_by, session_caches}
use Rattle.laws_way.proofs.laws.calls_succeed_by_listed_ways.Goals as goal

pub returns-clause-pass : goal.returns-clause-pass
returns-clause-pass g c = calls_granted_by _

pub returns-clause-authentication : goal.returns-clause-authentication
returns-clause-authentication g c = authentication_caches _

pub returns-clause-session : goal.returns-clause-session
returns-clause-session g c = session_caches _
