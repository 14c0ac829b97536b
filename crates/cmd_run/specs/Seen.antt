-- What every part of a run leaves unchanged in a library and its world, as contracts see them (this
-- project's own).
use Rattle.std.specs.Prelude.{◌≡◌, ℕ}
use Rattle.pam_base.specs.declared.code.Code.{Code}
pub use Rattle.report_step.specs.pam_library.specs.Seen.{AllTell, IsSoundIn, NoneIsOpenIn, SessionSeen}
use Rattle.cmd_run.specs.AnyWorld.{ProceedsFor}
use Rattle.cmd_run.specs.State.{RunState, Setting, setting_of, state_of}
use Rattle.cmd_run.specs.Time.{Moments}

-- no transaction is open, and each module data set has its cleanup record
pub record IsIdle (s : SessionSeen) : Type 0 where
  pub none_open : NoneIsOpenIn s
  pub sound : IsSoundIn s

abbrev pub state : SessionSeen → RunState
state s = state_of s.slots s.world

abbrev pub setting_in : SessionSeen → (Code → ℕ → ℕ) → Setting
setting_in s delay = setting_of s.players delay

-- the same with a time of day
abbrev pub setting_at : Moments → SessionSeen → (Code → ℕ → ℕ) → Setting
setting_at moments s delay = record { players = s.players; delay = delay; moments = moments }

-- What every part of a run leaves unchanged, and what its calls did, with real objects too: their
-- ends are among these.
pub record Went (Is : ℕ → ℕ → Type 0) (old new : SessionSeen) : Type 0 where
  pub players : new.players ≡ old.players
  pub tells : new.tells ≡ old.tells
  pub world_tells : new.world_tells ≡ old.world_tells
  pub gives : (number : Code → ℕ → ℕ) → old.gives number → new.gives number
  pub gives_no_other : (number : Code → ℕ → ℕ) → new.gives number → old.gives number
  pub proceeds : ProceedsFor Is old.players old.world.process.ledger old.slots
      new.world.process.ledger new.slots
  pub sound : IsSoundIn new
