use Rattle.std.proofs.Common.{refl, ◌∙◌}
use Rattle.module_acts.specs.Seen.{user_seen}
use Rattle.mod_lists.proofs.Conditions.{first_three, goes_on, stops}
use Rattle.mod_lists.proofs.pam_succeed_if.meet_all.Goals as goal

pub loop-rest-preserved : goal.loop-rest-preserved
loop-rest-preserved g c =
    let inv = c.loop-rest.invariant in
    record {
      tells = c.in_ok-truth.ensures.tells ∙ inv.tells;
      files = λ tells. c.in_ok-truth.ensures.files (inv.tells ∙ tells) ∙ inv.files tells;
      told = λ tells conv clock code end rest.
          inv.told tells conv clock code end (goes_on _ _ _ _ _ _ _ _ _ _ (first_three _ c.field-item.result c.word-item.result c.value-item.result c.in-len3-up.len_at_least c.field-item.is c.word-item.is c.value-item.is) _
          (λ act code' end' a. (rw (c.condition_of-condition.ensures, c.bytes.ensures, c.bytes-in-len3-up.ensures, c.bytes-in-len3-up-2.ensures) at (c.in_ok-truth.ensures.told (inv.tells ∙ tells) conv clock act code' end')) a)
          code end c.in-Holds.is rest);
    }

pub returns-in-Fails-clause-told : goal.returns-in-Fails-clause-told
returns-in-Fails-clause-told g c = λ tells conv clock.
    let inv = c.loop-rest.invariant in
    inv.told tells conv clock _ _ (stops _ _ _ _ _ _ _ _ _ _ (first_three _ c.field-item.result c.word-item.result c.value-item.result c.in-len3-up.len_at_least c.field-item.is c.word-item.is c.value-item.is) _
    (λ act code end a. (rw (c.condition_of-condition.ensures, c.bytes.ensures, c.bytes-in-len3-up.ensures, c.bytes-in-len3-up-2.ensures) at (c.in_ok-truth.ensures.told (inv.tells ∙ tells) conv clock act code end)) a)
    _ (λ act. rw c.in-Fails.is refl) (c.act_steps.ensures.answers _ _ _))

pub returns-in-NoUser-clause-told : goal.returns-in-NoUser-clause-told
returns-in-NoUser-clause-told g c = λ tells conv clock.
    let inv = c.loop-rest.invariant in
    inv.told tells conv clock _ _ (stops _ _ _ _ _ _ _ _ _ _ (first_three _ c.field-item.result c.word-item.result c.value-item.result c.in-len3-up.len_at_least c.field-item.is c.word-item.is c.value-item.is) _
    (λ act code end a. (rw (c.condition_of-condition.ensures, c.bytes.ensures, c.bytes-in-len3-up.ensures, c.bytes-in-len3-up-2.ensures) at (c.in_ok-truth.ensures.told (inv.tells ∙ tells) conv clock act code end)) a)
    _ (λ act. rw c.in-NoUser.is refl) (c.act_steps.ensures.answers _ _ _))

pub returns-in-Faulty-clause-told : goal.returns-in-Faulty-clause-told
returns-in-Faulty-clause-told g c = λ tells conv clock.
    let inv = c.loop-rest.invariant in
    inv.told tells conv clock _ _ (stops _ _ _ _ _ _ _ _ _ _ (first_three _ c.field-item.result c.word-item.result c.value-item.result c.in-len3-up.len_at_least c.field-item.is c.word-item.is c.value-item.is) _
    (λ act code end a. (rw (c.condition_of-condition.ensures, c.bytes.ensures, c.bytes-in-len3-up.ensures, c.bytes-in-len3-up-2.ensures) at (c.in_ok-truth.ensures.told (inv.tells ∙ tells) conv clock act code end)) a)
    _ (λ act. rw c.in-Faulty.is refl) (c.act_steps.ensures.answers _ _ _))

pub returns-clause-told : goal.returns-clause-told
returns-clause-told g c = λ tells conv clock.
    c.loop-rest.invariant.told tells conv clock _ _ (rw (c.final_code.ensures (user_seen c.args.seen.now) c.in_default.len_below) (c.act_steps.ensures.answers _ _ _))
