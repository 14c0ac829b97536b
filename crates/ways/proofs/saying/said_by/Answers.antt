use Rattle.service_load.specs.Trees.{stacks_of_trees}
use Rattle.service_load.specs.Load.{directory_exists}
use Rattle.service_load.specs.Loading.{texts_of}
use Rattle.explain_origins.specs.Placed.{sources_at}
use Rattle.ways.proofs.ServiceOutputFacts.{shows_with, told_with}
use Rattle.ways.proofs.saying.said_by.Goals as goal

pub returns-clause-told : goal.returns-clause-told
returns-clause-told g c = λ tells.
    let first = (goal.Vault-dyn g c.args.vault.now).vault_holds c.args.vault.now.1 in
    let new = (goal.Vault-dyn g (c.args.vault.now.0, c.sources_of-found.new.vault)).vault_holds c.sources_of-found.new.vault in
    told_with c.said_with.result c.sources_of-found.result c.args.service.now (stacks_of_trees c.args.trees.now)
    (sources_at (texts_of c.args.root.now first) (directory_exists first c.args.root.now) c.args.service.now) c.args.table.now new
    (c.sources_of-found.ensures.told tells) (c.sources_of-found.ensures.planned tells) c.said_with.ensures

pub returns-clause-shows : goal.returns-clause-shows
returns-clause-shows g c =
    shows_with c.said_with.result c.sources_of-found.result c.args.service.now (stacks_of_trees c.args.trees.now) c.args.table.now _ _
    c.sources_of-found.ensures.faults c.said_with.ensures
