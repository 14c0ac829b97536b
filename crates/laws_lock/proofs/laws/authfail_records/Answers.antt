use Rattle.laws_lock.proofs.AuthfailFacts.{authfail_records}
use Rattle.laws_lock.proofs.laws.authfail_records.Goals as goal

pub returns : goal.returns
returns c = authfail_records
