use Rattle.laws_token.proofs.ClearedTokenFacts.{no_token}
use Rattle.laws_token.proofs.laws.no_token_is_set_during_the_wait.Goals as goal

pub returns : goal.returns
returns c = no_token
