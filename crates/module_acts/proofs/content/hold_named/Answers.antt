use Rattle.module_acts.proofs.FileStepFacts.{holding, not_holding, refusing}
use Rattle.module_acts.proofs.content.hold_named.Goals as goal

pub returns-then-not-is_rooted-clause-told : goal.returns-then-not-is_rooted-clause-told
returns-then-not-is_rooted-clause-told g c = λ tells room clock act known code end rest.
    not_holding room _ clock _ _ _ act known code end (rw c.is_rooted.ensures at c.if-not-is_rooted.true) rest

pub returns-in-Ok-clause-told : goal.returns-in-Ok-clause-told
returns-in-Ok-clause-told g c = λ tells room clock act known code end rest.
    let held = rw (c.bytes-2.ensures, c.in_ok-path.ensures, c.bytes.ensures) at (c.in-Ok.ensures.told tells) in
    holding room _ clock _ _ _ act known code end (rw c.is_rooted.ensures at c.if-not-is_rooted.false) held.0 (rw (← held.1) rest)

pub returns-in-Err-Failed-clause-told : goal.returns-in-Err-Failed-clause-told
returns-in-Err-Failed-clause-told g c = λ tells room clock act known code end rest.
    let failed = rw c.in-Err-Failed.field-0-is at (c.in-Err-Failed.ensures.told tells) in
    refusing room _ clock _ _ _ act known code end (rw c.is_rooted.ensures at c.if-not-is_rooted.false) failed.0 (rw (← failed.1) rest)
