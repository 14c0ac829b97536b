use Rattle.laws_age.proofs.EntryAgeFacts.{new_is_not_too_old}
use Rattle.laws_age.proofs.laws.new_password_is_not_too_old.Goals as goal

pub returns : goal.returns
returns c = new_is_not_too_old
