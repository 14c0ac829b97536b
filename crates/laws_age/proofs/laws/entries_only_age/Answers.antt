use Rattle.laws_age.proofs.EntryAgeFacts.{only_ages}
use Rattle.laws_age.proofs.laws.entries_only_age.Goals as goal

pub returns : goal.returns
returns c = only_ages
