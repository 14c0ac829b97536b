use Rattle.laws_age.proofs.EntryAgeFacts.{accounts_expire}
use Rattle.laws_age.proofs.laws.expired_accounts_stay_expired.Goals as goal

pub returns : goal.returns
returns c = accounts_expire
