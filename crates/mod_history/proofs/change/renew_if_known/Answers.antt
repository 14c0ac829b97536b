use Rattle.pam_room.specs.Plain.{plain_call}
use Rattle.mod_history.proofs.SecondPassFacts.{by_plain, by_shadow, by_unavailable, by_unknown}
use Rattle.mod_history.proofs.change.renew_if_known.Goals as goal

pub returns-in-Unknown-clause-told : goal.returns-in-Unknown-clause-told
returns-in-Unknown-clause-told g c = λ talks tells clock. by_unknown (plain_call c.args.asked.now.call.now) c.args.user.now c.args.look.now _ c.in-Unknown.is

pub returns-in-Unavailable-clause-told : goal.returns-in-Unavailable-clause-told
returns-in-Unavailable-clause-told g c = λ talks tells clock. by_unavailable (plain_call c.args.asked.now.call.now) c.args.user.now c.args.look.now _ c.in-Unavailable.is

pub returns-in-Plain-clause-told : goal.returns-in-Plain-clause-told
returns-in-Plain-clause-told g c = λ talks tells clock.
    by_plain (plain_call c.args.asked.now.call.now) c.args.user.now c.args.look.now _ _ _ c.renew.result c.in-Plain.is (rw c.bytes.ensures at (c.renew.ensures.told talks tells clock))

pub returns-in-Shadowed-clause-told : goal.returns-in-Shadowed-clause-told
returns-in-Shadowed-clause-told g c = λ talks tells clock.
    by_shadow (plain_call c.args.asked.now.call.now) c.args.user.now c.args.look.now _ c.in-Shadowed.entry _ c.renew-in-Shadowed.result c.in-Shadowed.is (rw c.bytes-in-Shadowed.ensures at (c.renew-in-Shadowed.ensures.told talks tells clock))
