use Rattle.ways.specs.Program.{asked_of}
use Rattle.ways.proofs.OutputFacts.{ends_so}
use Rattle.ways.proofs.ExitStatusFacts.{by_no_usage, by_no_write_fault, by_unread, by_usage, by_write_fault}
use Rattle.ways.proofs.program.ways_to.Goals as goal

pub returns-in-Ok-clause-told : goal.returns-in-Ok-clause-told
returns-in-Ok-clause-told g c = λ tells reads writes.
    let old = (goal.Vault-dyn g c.args.vault.now).vault_holds c.args.vault.now.1 in
    let new = (goal.Vault-dyn g (c.args.vault.now.0, c.output_for.new.vault)).vault_holds c.output_for.new.vault in
    ends_so c.write_output.result c.in-Ok.output (asked_of c.args.words.now) old _ new _ _ _ _ (c.in-Ok.ensures.told tells reads)
    (c.write_output.ensures.told writes)

pub returns-in-Ok-clause-usage : goal.returns-in-Ok-clause-usage
returns-in-Ok-clause-usage g c = by_usage _ _ _ _ c.write_output.result c.in-Ok.output.status _ _ _ c.write_output.ensures.leaves c.in-Ok.ensures.causes

pub returns-in-Ok-clause-no_usage : goal.returns-in-Ok-clause-no_usage
returns-in-Ok-clause-no_usage g c = by_no_usage _ _ _ _ c.write_output.result c.in-Ok.output.status _ _ _ c.write_output.ensures.leaves c.in-Ok.ensures.causes

pub returns-in-Ok-clause-unread : goal.returns-in-Ok-clause-unread
returns-in-Ok-clause-unread g c = by_unread _ _ _ _ c.write_output.result c.in-Ok.output.status _ _ _ c.write_output.ensures.leaves c.in-Ok.ensures.causes

pub returns-in-Ok-clause-write_fault : goal.returns-in-Ok-clause-write_fault
returns-in-Ok-clause-write_fault g c = by_write_fault _ _ _ _ c.write_output.result c.in-Ok.output.status _ _ _ c.write_output.ensures.leaves
    c.in-Ok.ensures.causes

pub returns-in-Ok-clause-no_write_fault : goal.returns-in-Ok-clause-no_write_fault
returns-in-Ok-clause-no_write_fault g c = by_no_write_fault c.write_output.result c.in-Ok.output.status _ _ c.write_output.ensures.leaves
