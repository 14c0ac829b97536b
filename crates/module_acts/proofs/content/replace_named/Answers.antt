use Rattle.module_acts.proofs.FileStepFacts.{not_replacing, replacing}
use Rattle.module_acts.proofs.content.replace_named.Goals as goal

pub returns-in-Ok-clause-told : goal.returns-in-Ok-clause-told
returns-in-Ok-clause-told g c = λ tells room clock act known code end rest.
    let replaced = rw (c.bytes-2.ensures, c.in_ok-path.ensures, c.bytes.ensures) at (c.in-Ok.ensures.told tells) in
    replacing _ _ clock _ _ _ act known code end replaced.0 (rw (← replaced.1) rest)

pub returns-in-Err-Failed-clause-told : goal.returns-in-Err-Failed-clause-told
returns-in-Err-Failed-clause-told g c = λ tells room clock act known code end rest.
    let failed = rw c.in-Err-Failed.field-0-is at (c.in-Err-Failed.ensures.told tells) in
    not_replacing _ _ clock _ _ _ act known code end failed.0 (rw (← failed.1) rest)
