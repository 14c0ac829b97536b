use Rattle.laws_age.proofs.EntryAgeFacts.{longer_maximum}
use Rattle.laws_age.proofs.laws.longer_maximum_expires_no_sooner.Goals as goal

pub returns : goal.returns
returns c = longer_maximum
