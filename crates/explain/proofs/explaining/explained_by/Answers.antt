use Rattle.session_audit.specs.pass_replay.specs.Retold.{stacks_in}
use Rattle.session_audit.specs.service_load.specs.Load.{directory_exists}
use Rattle.session_audit.specs.service_load.specs.Loading.{texts_of}
use Rattle.explain_origins.specs.Placed.{sources_at}
use Rattle.explain.proofs.ReportOutputFacts.{shows_with, told_with}
use Rattle.explain.proofs.explaining.explained_by.Goals as goal

pub returns-clause-told : goal.returns-clause-told
returns-clause-told g c = λ tells.
    let first = (goal.Vault-dyn g c.args.vault.now).vault_holds c.args.vault.now.1 in
    let new = (goal.Vault-dyn g (c.args.vault.now.0, c.sources_of-found.new.vault)).vault_holds c.sources_of-found.new.vault in
    told_with c.explained_with.result c.sources_of-found.result (stacks_in c.args.trees.now)
    (sources_at (texts_of c.args.root.now first) (directory_exists first c.args.root.now) c.args.service.now) c.args.report.now new
    (c.sources_of-found.ensures.told tells) (c.sources_of-found.ensures.planned tells) c.explained_with.ensures

pub returns-clause-shows : goal.returns-clause-shows
returns-clause-shows g c =
    shows_with c.explained_with.result c.sources_of-found.result (stacks_in c.args.trees.now) c.args.report.now _ _ c.sources_of-found.ensures.faults
    c.explained_with.ensures
