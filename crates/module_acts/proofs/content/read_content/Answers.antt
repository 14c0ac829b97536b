use Rattle.module_acts.specs.Content.{content_at}
use Rattle.module_acts.proofs.ReadResultFacts.{absent, failed, holds, too_long}
use Rattle.module_acts.proofs.content.read_content.Goals as goal

pub returns-in-Ok-clause-told : goal.returns-in-Ok-clause-told
unfolding content_at
returns-in-Ok-clause-told g c = λ tells. holds _ _ _ _ (rw (c.bytes.ensures, c.in_ok-path.ensures) at (c.in-Ok.ensures.told tells))

pub returns-in-Err-Absent-clause-told : goal.returns-in-Err-Absent-clause-told
unfolding content_at
returns-in-Err-Absent-clause-told g c = λ tells.
    let told = rw c.in-Err-Absent.field-0-is at (c.in-Err-Absent.ensures.told tells) in
    absent _ _ _ (rw (c.bytes.ensures, c.in_ok-path.ensures) at told)

pub returns-in-Err-TooLong-clause-told : goal.returns-in-Err-TooLong-clause-told
unfolding content_at
returns-in-Err-TooLong-clause-told g c = λ tells.
    let told = rw c.in-Err-TooLong.field-0-is at (c.in-Err-TooLong.ensures.told tells) in
    too_long _ _ _ (rw (c.bytes.ensures, c.in_ok-path.ensures) at told)

pub returns-in-Err-Failed-clause-told : goal.returns-in-Err-Failed-clause-told
unfolding content_at
returns-in-Err-Failed-clause-told g c = λ tells.
    let told = rw c.in-Err-Failed.field-0-is at (c.in-Err-Failed.ensures.told tells) in
    failed _ _ _ told
