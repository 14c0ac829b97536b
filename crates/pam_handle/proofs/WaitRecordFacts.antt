-- The wait and its record, by the requested delay.
use Rattle.std.proofs.Common.{◌≡◌, ℕ, Bool, Option, Some, sym, ◌∙◌, ap}
use Rattle.dispatch_core.specs.fail_delay.specs.Wait.{wait_of}
use Rattle.pam_base.specs.declared.code.Code.{Code}
use Rattle.dispatch_core.specs.pam_room.specs.State.{PlainWorld}
use Rattle.pam_handle.specs.declared.wait.Wait.{Wait}
use Rattle.pam_handle.specs.Call.{rested_by, waited_by}

pub waited_some : (code : Code) (on : Bool) (number : Code → ℕ → ℕ) (before : Option Wait) (asked wanted n : ℕ) (w rested : PlainWorld)
    → asked ≡ wanted → wait_of on number code asked ≡ Some n → rested ≡ rested_by (Some n) w
    → (Some (record { code = code; asked = asked; wait = n }) ≡ waited_by code wanted (wait_of on number code wanted) before) × (rested ≡ rested_by (wait_of on number code wanted) w)
waited_some code on number before asked wanted n w rested a e r = (
  ap (λ (o : Option ℕ). waited_by code asked o before) (sym e) ∙ ap (λ (x : ℕ). waited_by code x (wait_of on number code x) before) a,
  r ∙ ap (λ (o : Option ℕ). rested_by o w) (sym e) ∙ ap (λ (x : ℕ). rested_by (wait_of on number code x) w) a,
)
