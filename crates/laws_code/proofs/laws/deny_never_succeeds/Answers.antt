use Rattle.laws_code.proofs.At_once.{never_succeeds}
use Rattle.laws_code.proofs.laws.deny_never_succeeds.Goals as goal

pub returns : goal.returns
returns c = never_succeeds
