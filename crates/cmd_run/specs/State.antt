-- What the lines of a script lead from and to, and what stays the same meanwhile (this project's own).
use Rattle.std.specs.Prelude.{ℕ, List}
use Rattle.pam_base.specs.declared.code.Code.{Code}
use Rattle.report_step.specs.pam_room.specs.Module.{Player}
use Rattle.report_step.specs.pam_room.specs.State.{PlainWorld}
use Rattle.report_step.specs.pam_library.specs.Slots.{PlainSlot}
use Rattle.cmd_run.specs.Time.{Moments, kept, never}

-- the modules, the number that the application's delay function gives, and the moments of the time of day
pub record Setting : Type 0 where
  pub players : List Player
  pub delay : Code → ℕ → ℕ
  pub moments : Moments

-- the slots for transactions, and the world that they share
pub record RunState : Type 0 where
  pub slots : List PlainSlot
  pub world : PlainWorld

-- without a time of day
abbrev pub setting_of : List Player → (Code → ℕ → ℕ) → Setting
setting_of players delay = record { players = players; delay = delay; moments = never }

abbrev pub state_of : List PlainSlot → PlainWorld → RunState
state_of slots world = record { slots = slots; world = world }

-- the state in which an item is applied that n others come before: the clock is set first
abbrev pub kept_at : Setting → ℕ → RunState → RunState
kept_at setting n s = state_of s.slots (kept (setting.moments n) s.world)
