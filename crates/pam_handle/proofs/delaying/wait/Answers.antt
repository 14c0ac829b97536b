use Rattle.std.proofs.Common.{Some, None, refl, sym, ◌∙◌, ap}
use Rattle.dispatch_core.specs.pam_room.specs.State.{PlainWorld}
use Rattle.pam_handle.specs.Call.{rested_by}
use Rattle.pam_handle.proofs.WaitRecordFacts.{waited_some}
use Rattle.pam_handle.proofs.delaying.wait.Goals as goal

pub returns-in-Some-clause-told : goal.returns-in-Some-clause-told
returns-in-Some-clause-told g c = λ number is told.
    waited_some c.args.ended.code c.args.delay_on number c.args.waited.now c.asked_of-asked.result _ c.in-Some.wait _ _ (c.asked_of-asked.ensures.told told) (sym (c.wait_by.ensures.wait number is) ∙ c.in-Some.is)
    (c.rest_for.ensures.told (rw c.asked_of-asked.ensures.tells told) ∙ ap (λ (w : PlainWorld). rested_by (Some c.in-Some.wait) w) (c.asked_of-asked.ensures.random_taken told))

pub returns-in-Some-clause-sound : goal.returns-in-Some-clause-sound
returns-in-Some-clause-sound g c = record {
  asked = c.asked_of-asked.result;
  wait = Some c.in-Some.wait;
  asked_bound = c.asked_of-asked.ensures.bound;
  wait_bound = c.in-Some.ensures.within;
  off = λ number off. sym c.in-Some.is ∙ c.wait_by.ensures.off number off;
  told = refl;
  slept = rw c.asked_of-asked.ensures.nap at c.rest_for.ensures.slept;
}

pub returns-in_default-clause-sound : goal.returns-in_default-clause-sound
returns-in_default-clause-sound g c = record {
  asked = c.asked_of-asked.result;
  wait = None;
  asked_bound = c.asked_of-asked.ensures.bound;
  wait_bound = tt;
  off = λ number off. sym c.in_default.is ∙ c.wait_by.ensures.off number off;
  told = refl;
  slept = λ told. rw c.asked_of-asked.ensures.nap refl;
}
