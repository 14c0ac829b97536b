use Rattle.laws_code.proofs.UserCheckFacts.{told}
use Rattle.laws_code.proofs.laws.nologin_succeeds_if_told.Goals as goal

pub returns : goal.returns
returns c = told
