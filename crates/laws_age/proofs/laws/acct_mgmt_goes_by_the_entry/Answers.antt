use Rattle.laws_age.proofs.AcctMgmtFacts.{goes_by_the_entry}
use Rattle.laws_age.proofs.laws.acct_mgmt_goes_by_the_entry.Goals as goal

pub returns : goal.returns
returns c = goes_by_the_entry
