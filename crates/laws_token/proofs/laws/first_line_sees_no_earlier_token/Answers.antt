use Rattle.laws_token.proofs.ClearedTokenFacts.{first_line}
use Rattle.laws_token.proofs.laws.first_line_sees_no_earlier_token.Goals as goal

pub returns : goal.returns
returns c = first_line
