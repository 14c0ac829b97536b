-- A login under a root, by the status with which the program ends (this project's own).
use Rattle.std.specs.Prelude.{◌≡◌, ◌⊎◌, ℕ, List, Result}
use Rattle.pam_outside.specs.Streams.{SinkState}
use Rattle.pam_room.specs.Module.{Player}
use Rattle.pam_room.specs.State.{PlainWorld}
use Rattle.pam_library.specs.Slots.{PlainSlot}
use Rattle.record_reader.specs.declared.ending.Stop.{Stop}
use Rattle.cmd_login.specs.declared.attempt.Verdict.{Verdict}
use Rattle.cmd_login.specs.Login.{KnownCalls, Part}
use Rattle.cmd_login.specs.Reported.{LogsIn}
use Rattle.cmd_run.specs.State.{RunState, state_of}
use Rattle.cmd_all.specs.declared.exit.Exit.TheVariants.{NoMemory}
use Rattle.cmd_all.specs.Exit.{exit_status, login_exit}
use Rattle.cmd_all.specs.Setup.{Around, Object, Setup}

abbrev pub IsLoginStatus : ℕ → Type 0
IsLoginStatus n = (result : Result Verdict Stop) × (n ≡ exit_status (login_exit result))

-- the world under a root
abbrev pub at_root : List ℕ → PlainWorld → PlainWorld
at_root root w = record w { process = record w.process { root = root } }

-- before the first call: sixteen closed slots, the terminal's conversation in the first
abbrev pub entry : List PlainSlot → List ℕ → PlainWorld → RunState
entry slots root w = state_of slots (at_root root w)

-- a login was begun: what it did and wrote, and the world after it
pub record IsLogin (Does : Part Verdict) (known : KnownCalls) (players : List Player) (status : ℕ)
    (start : RunState) (world : PlainWorld) (output : Object SinkState) : Type 0 where
  pub result : Result Verdict Stop
  pub is : status ≡ exit_status (login_exit result)
  pub end : RunState
  pub world_is : world ≡ end.world
  pub logs_in : LogsIn Does known players result start end output.old output.new

-- an allocation for the root or the slots failed, and nothing happened
pub record IsNoLogin (status : ℕ) (around : Around) (output : Object SinkState) : Type 0 where
  pub is : status ≡ exit_status NoMemory
  pub world : around.new ≡ around.old
  pub sink : output.new ≡ output.old

-- a login over the slots of a setup, by what is known of its calls
abbrev pub LogsInBy : Part Verdict → KnownCalls → Setup → ℕ → List ℕ → Around → Object SinkState
    → Type 0
LogsInBy Does known setup status root world output =
    IsLogin Does known setup.players status (entry setup.slots root world.old) world.new output
    ⊎ IsNoLogin status world output
