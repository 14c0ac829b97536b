use Rattle.laws_way.proofs.CallTraceFacts.{traced_authentication, traced_calls, traced_changes, traced_closing, traced_credentials, traced_session}
use Rattle.laws_way.proofs.laws.traced_calls_succeed_by_listed_ways.Goals as goal

pub returns-clause-pass : goal.returns-clause-pass
returns-clause-pass c = traced_calls

pub returns-clause-change : goal.returns-clause-change
returns-clause-change c = traced_changes

pub returns-clause-authentication : goal.returns-clause-authentication
returns-clause-authentication c = traced_authentication

pub returns-clause-session : goal.returns-clause-session
returns-clause-session c = traced_session

pub returns-clause-credentials : goal.returns-clause-credentials
returns-clause-credentials c = traced_credentials

pub returns-clause-closing : goal.returns-clause-closing
returns-clause-closing c = traced_closing
