use Rattle.pam_library.proofs.library.Library.module_name.Goals as goal
use Rattle.pam_library.proofs.ModuleNameFacts.{name_at}

pub returns : goal.returns
returns g c = name_at _ _ _ _ c.args.self.now.gear.mods.items c.args.owner c.index.result.now _ c.index.ensures c.requires c.name_of.ensures
