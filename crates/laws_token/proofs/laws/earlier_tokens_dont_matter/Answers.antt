use Rattle.laws_token.proofs.ClearedTokenFacts.{earlier_dont_matter}
use Rattle.laws_token.proofs.laws.earlier_tokens_dont_matter.Goals as goal

pub returns : goal.returns
returns c = earlier_dont_matter
