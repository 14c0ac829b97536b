use Rattle.service_load.proofs.CheckingLemmas.{adds_entry, adds_fault}
use Rattle.service_load.proofs.file_rules.add_rule.Goals as goal

pub returns-in_ok-push-in-Ok-clause-added : goal.returns-in_ok-push-in-Ok-clause-added
returns-in_ok-push-in-Ok-clause-added c = adds_entry _ _ _ _ _ _ _ c.in-Some.ensures (rw c.is_in_directory.ensures at c.in-Ok.ensures.answer) (c.in_ok-push-in-Ok.ensures.ok)

pub returns-in-Err-Named-clause-added : goal.returns-in-Err-Named-clause-added
returns-in-Err-Named-clause-added c =
    let is = rw c.in-Err-Named.field-0-is at c.in-Err-Named.ensures.answer in
    adds_fault _ _ _ _ _ c.in-Some.ensures (rw c.is_in_directory.ensures at is)
