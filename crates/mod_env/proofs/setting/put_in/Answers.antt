use Rattle.std.proofs.Common.{◌≡◌, Bool, true, false, cond, List, IsTrue, refl}
use Rattle.env_list.specs.Environment.{Variable}
use Rattle.mod_env.specs.Env.{put_in}
use Rattle.mod_env.proofs.setting.put_in.Goals as goal

taken : (refused : Bool) (old after new : List Variable) → new ≡ after → (IsTrue refused → ⊥) → new ≡ cond refused old after
taken true old after new e wrong = absurd (wrong refl)
taken false old after new e wrong = e

left : (refused : Bool) (old after new : List Variable) → new ≡ old → IsTrue refused → new ≡ cond refused old after
left true old after new e holds = e
left false old after new e holds = absurd cc

pub returns-in-Ok : goal.returns-in-Ok
unfolding put_in
returns-in-Ok c = taken _ _ _ _ c.in-Ok.ensures.ok (λ holds. let wrong = c.in-Ok.ensures.bad_item.1 holds in absurd cc)

pub returns-in-Err-Named : goal.returns-in-Err-Named
unfolding put_in
returns-in-Err-Named c = left _ _ _ _ c.in-Err-Named.ensures.err (c.in-Err-Named.ensures.bad_item.0 (rw c.in-Err-Named.field-0-is refl))
