use Rattle.std.proofs.Common.{◌∙◌}
use Rattle.env_list.proofs.Entries.{looked_up}
use Rattle.env_list.proofs.environment.EnvList.value.Goals as goal

pub returns : goal.returns
returns c = rw (← c.self.view_is) (c.get.ensures.value ∙ looked_up c.args.name.now c.self.inside.variables.entries)
