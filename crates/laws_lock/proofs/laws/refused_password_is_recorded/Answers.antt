use Rattle.laws_lock.proofs.Refused.{refused_is_recorded}
use Rattle.laws_lock.proofs.laws.refused_password_is_recorded.Goals as goal

pub returns : goal.returns
returns c = refused_is_recorded c.authfail_records.ensures
