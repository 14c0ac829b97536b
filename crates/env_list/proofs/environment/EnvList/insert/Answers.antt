use Rattle.env_list.proofs.Entries.{different_names, inserted}
use Rattle.env_list.proofs.environment.EnvList.insert.Goals as goal

pub invariant_of-self-2 : goal.invariant_of-self-2
invariant_of-self-2 c = different_names _ c.insert.ensures.unique

pub returns-clause-ok : goal.returns-clause-ok
returns-clause-ok c =
    rw (c.in_ok-insert.ensures.entries, ← c.self.view_is, ← c.in_ok-name.ensures.items, ← c.in_ok-value.ensures)
    (inserted c.in_ok-name.name c.in_ok-value.value c.self.inside.variables.entries c.self.invariant)
