use Rattle.laws_module.proofs.Alike.{others_dont_matter}
use Rattle.laws_module.proofs.laws.other_users_dont_matter.Goals as goal

pub returns : goal.returns
returns c = others_dont_matter
