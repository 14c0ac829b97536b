use Rattle.laws_code.proofs.At_once.{root_alone}
use Rattle.laws_code.proofs.laws.rootok_succeeds_for_root.Goals as goal

pub returns : goal.returns
returns c = root_alone
