use Rattle.pam_handle.proofs.CachedPassFacts.{names_given}
use Rattle.pam_handle.proofs.prepare.module_names.Goals as goal

pub returns : goal.returns
returns g c = names_given c.names_in.result _ _ _ _ _ c.args.gear.now.mods.items c.deref.ensures.value c.names_in.ensures
