use Rattle.std.proofs.Common.{refl}
use Rattle.pam_room.specs.Plain.{plain_call}
use Rattle.mod_unix.proofs.StoredTokenFacts.{made, no_token}
use Rattle.mod_unix.proofs.store.store_token.Goals as goal

pub returns-in-None-clause-told : goal.returns-in-None-clause-told
returns-in-None-clause-told g c = λ tells ticks room day. no_token c.acting.ensures.clock _ _ _ _ refl c.args.token c.in-None.is

pub returns-clause-told : goal.returns-clause-told
returns-clause-told g c = λ tells ticks room day.
    let clock = c.args.clock.now in
    let before = (goal.Clock-dyn g clock).clock_holds clock.1 in
    let change = c.args.change.now in
    rw (c.random_word.ensures.counts ticks) (made c.acting.ensures.clock c.act_steps.ensures.drawing
    (plain_call change.job.now.call.now) change.user.now room _ _ before change.job.now.process.now c.in-Some.token
    change.today c.random_word.result day (c.random_word.ensures.told ticks) c.in_ok-hash.hash
    (rw c.bytes.ensures at c.in_ok-hash.ensures) c.change_shadow.result c.args.token c.in-Some.is
    (rw c.bytes-2.ensures at (c.change_shadow.ensures.told tells)))
