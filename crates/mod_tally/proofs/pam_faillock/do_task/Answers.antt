use Rattle.mod_tally.proofs.pam_faillock.do_task.Goals as goal

pub returns-in-Preauth-clause-told : goal.returns-in-Preauth-clause-told
returns-in-Preauth-clause-told g c = λ tells clock ticks conv. rw c.in-Preauth.is (rw c.in-Preauth.is at (c.task_on_file.ensures.told tells clock ticks conv))

pub returns-in-AuthFail-clause-told : goal.returns-in-AuthFail-clause-told
returns-in-AuthFail-clause-told g c = λ tells clock ticks conv. rw c.in-AuthFail.is (rw c.in-AuthFail.is at (c.lock_file.ensures.told tells clock ticks conv))

pub returns-in-AuthSucc-clause-told : goal.returns-in-AuthSucc-clause-told
returns-in-AuthSucc-clause-told g c = λ tells clock ticks conv. rw c.in-AuthSucc.is (rw c.in-AuthSucc.is at (c.clear_any.ensures.told tells clock ticks conv))

pub returns-in-Clear-clause-told : goal.returns-in-Clear-clause-told
returns-in-Clear-clause-told g c = λ tells clock ticks conv. rw c.in-Clear.is (rw c.in-Clear.is at (c.clear_any-in-Clear.ensures.told tells clock ticks conv))
