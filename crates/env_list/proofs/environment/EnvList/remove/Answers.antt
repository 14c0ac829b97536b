use Rattle.std.proofs.Common.{◌∙◌, ap, is_some}
use Rattle.env_list.proofs.Entries.{different_names, found, removed}
use Rattle.env_list.proofs.environment.EnvList.remove.Goals as goal

pub invariant_of-self : goal.invariant_of-self
invariant_of-self c = different_names _ c.shift_remove.ensures.unique

pub returns-clause-removed : goal.returns-clause-removed
returns-clause-removed c =
    rw (c.shift_remove.ensures.entries, ← c.self.view_is) (removed c.args.name.now c.self.inside.variables.entries c.self.invariant)

pub returns-clause-was_set : goal.returns-clause-was_set
returns-clause-was_set c =
    rw (← c.self.view_is) (c.is_some.ensures ∙ ap is_some c.shift_remove.ensures.value ∙ found c.args.name.now c.self.inside.variables.entries)
