-- What a command gets, and what it leaves (this project's own).
use Rattle.std.specs.Prelude.{◌≡◌, ◌≤◌, ◌<◌, ◌^◌, ◌&&◌, ℕ, Bool, List, [], IsTrue}
use Rattle.pam_base.specs.declared.code.Code.{Code}
use Rattle.data_cleanup.specs.Ledger.{PlainLedger}
use Rattle.fail_delay.specs.DelayFn.{GivesOneNumber}
use Rattle.fail_delay.specs.declared.delay_fn.TheConstants.{LONGEST_ASKED}
use Rattle.pam_outside.specs.Files.{VaultState}
use Rattle.pam_outside.specs.Streams.{SourceState, SinkState}
use Rattle.pam_room.specs.Module.{Player}
use Rattle.pam_room.specs.State.{PlainWorld}
pub use Rattle.record_reader.specs.Object.{Object, object_of}
use Rattle.pam_library.specs.Slots.{PlainSlot}
use Rattle.cmd_run.specs.State.{Setting}
pub use Rattle.cmd_run.specs.Time.{Moments, timing_of}

-- the modules, the closed slots that the conversations make, which numbers the delay function gives, the moments of the
-- time of day, and whether conversations and time of day are modelled
pub record Setup : Type 1 where
  pub players : List Player
  pub slots : List PlainSlot
  pub gives : (Code → ℕ → ℕ) → Type 0
  pub moments : Moments
  pub tells : Bool

-- with a number that the delay function gives
abbrev pub setting_with : Setup → (Code → ℕ → ℕ) → Setting
setting_with setup number = record {
  players = setup.players;
  delay = number;
  moments = setup.moments;
}

-- two setups that differ at most in the delay function
pub record IsSameSetup (setup other : Setup) : Type 0 where
  pub players : setup.players ≡ other.players
  pub slots : setup.slots ≡ other.slots
  pub moments : setup.moments ≡ other.moments
  pub tells : setup.tells ≡ other.tells

-- a world before and after a command, with its files, and that nothing but these changed
pub record Around : Type 1 where
  pub tells : Bool
  pub tells_after : Bool
  pub old : PlainWorld
  pub new : PlainWorld
  pub is_kept : Type 0
  pub files : Object VaultState
  pub only_files : Type 0

-- There are sixteen conversations and fewer than 2^32 modules, the delay function may be called and gives one number, and
-- no module data have been set.
pub record IsReady (convs modules : ℕ) (Callable : Code → ℕ → Type 0)
    (Gives : Code → ℕ → ℕ → Type 0) (ledger : PlainLedger) : Type 0 where
  pub sixteen : convs ≡ 16
  pub few : modules < 2 ^ 32
  pub callable : (code : Code) (asked : ℕ) → asked ≤ LONGEST_ASKED → Callable code asked
  pub one_number : GivesOneNumber Gives
  pub no_births : ledger.births ≡ []
  pub no_receipts : ledger.filed ≡ []

-- for any numbers that the delay function gives, if output, world and conversations are modelled
abbrev pub IfTold : Setup → Around → Object SinkState → (Setting → Type 0) → Type 0
IfTold setup world output Holds =
    (number : Code → ℕ → ℕ) → setup.gives number → IsTrue output.tells
    → IsTrue (world.tells && setup.tells) → Holds (setting_with setup number)

-- the same if the input is modelled, too
abbrev pub IfAllTold : Setup → Around → Object SourceState → Object SinkState → (Setting → Type 0)
    → Type 0
IfAllTold setup world input output Holds =
    (number : Code → ℕ → ℕ) → setup.gives number → IsTrue input.tells → IsTrue output.tells
    → IsTrue (world.tells && setup.tells) → Holds (setting_with setup number)
