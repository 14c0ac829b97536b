use Rattle.mod_unix.specs.Authenticate.{keeps_for_setcred}
use Rattle.mod_unix.proofs.FunctionResultFacts.{refused, settled, unkept}
use Rattle.mod_unix.proofs.pam_unix.keep_for_setcred.Goals as goal

pub returns-in-Kept-clause-told : goal.returns-in-Kept-clause-told
returns-in-Kept-clause-told c = λ step s conv vault clock h.
    settled step c.in-Ok.answer c.in-Kept.code s _ c.answer_and_keep.result _ _ c.in-Kept.is c.code_number.ensures (rw c.in-Ok.is at h) (c.answer_and_keep.ensures.told conv vault clock)

pub returns-in-Unkept-clause-told : goal.returns-in-Unkept-clause-told
returns-in-Unkept-clause-told c = λ step s conv vault clock h.
    unkept step c.in-Ok.answer _ s _ c.act_steps.ensures.answers c.in-Unkept.is (rw c.in-Ok.is at h)

pub returns-in-Named-clause-told : goal.returns-in-Named-clause-told
returns-in-Named-clause-told c = λ step s conv vault clock h. refused c.in-Err.refused _ step keeps_for_setcred s _ c.in-Named.is (rw c.in-Err.is at h)
