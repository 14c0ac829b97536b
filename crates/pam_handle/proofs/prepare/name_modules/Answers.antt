use Rattle.std.proofs.Common.{◌∙◌, Ok, sym}
use Rattle.pam_handle.proofs.CachedPassFacts.{names_given}
use Rattle.pam_handle.proofs.prepare.name_modules.Goals as goal

pub returns-then-are_named : goal.returns-then-are_named
returns-then-are_named g c =
    names_given (Ok c.args.names.now) _ _ _ _ _ c.args.gear.now.mods.items c.deref.ensures.value (sym c.items.ensures ∙ c.are_named.ensures c.if-are_named.true)
