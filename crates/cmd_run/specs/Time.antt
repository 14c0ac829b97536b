-- The time of day that the owner of a run hands in (this project's own).
use Rattle.std.specs.Prelude.{◌≡◌, ℕ, Bool, true, Option, Some, None, IsTrue}
use Rattle.report_step.specs.pam_room.specs.State.{PlainWorld}

-- the moment to which the clock is set before an item or a call, by how many came before it; None if it isn't set
abbrev pub Moments : Type 0
Moments = ℕ → Option ℕ

abbrev pub never : Moments
never n = None

-- what is known of a time of day: whether it is modelled, and the moments that it gives
pub record Timing : Type 0 where
  pub tells : Bool
  pub moments : Moments

-- without one, the clock is never set
abbrev pub timing_of : {A : Type 0} → (A → Bool) → (A → ℕ → ℕ) → Option A → Timing
timing_of tells gives None = record { tells = true; moments = never }
timing_of tells gives (Some day) = record { tells = tells day; moments = λ n. Some (gives day n) }

abbrev pub kept_moment : Option ℕ → ℕ → ℕ
kept_moment None moment = moment
kept_moment (Some now) moment = now

-- the world after the clock was set; nothing else changes
abbrev pub kept : Option ℕ → PlainWorld → PlainWorld
kept now w = record w { clock = record w.clock { moment = kept_moment now w.clock.moment } }

-- The clock was set before an item or a call that n others came before. Without a time of day nothing changes; what is
-- modelled before it, as the two flags say, is modelled after it.
pub record KeepsTime (time : Timing) (n : ℕ) (is_missing before after : Bool)
    (old new : PlainWorld) : Type 0 where
  pub tells : after ≡ before
  pub told : IsTrue time.tells → IsTrue before → new ≡ kept (time.moments n) old
  pub still : IsTrue is_missing → new ≡ old
