-- Lines generated from a seed, by the status with which the program ends (this project's own).
use Rattle.std.specs.Prelude.{◌≡◌, ◌⊎◌, ℕ, List, Result}
use Rattle.pam_outside.specs.Streams.{SinkState}
use Rattle.pam_room.specs.State.{PlainWorld}
use Rattle.pam_library.specs.Slots.{PlainSlot}
use Rattle.record_reader.specs.declared.ending.Stop.{Stop}
use Rattle.cmd_generate.specs.declared.generating.Generated.{Generated as GenerateResult}
use Rattle.cmd_generate.specs.Generated.{Generates, Generation, generation}
use Rattle.cmd_run.specs.State.{RunState, Setting, setting_of, state_of}
use Rattle.cmd_all.specs.declared.exit.Exit.TheVariants.{NoMemory}
use Rattle.cmd_all.specs.Exit.{exit_status, generate_exit}
use Rattle.cmd_all.specs.Setup.{Around, Object}

abbrev pub IsGenerateStatus : ℕ → Type 0
IsGenerateStatus n =
    (result : Result GenerateResult Stop) × (n ≡ exit_status (generate_exit result))

-- the line of a generation is written, or a prefix of it, and the world is the one after it
pub record IsGenerated (status : ℕ) (g : Generation) (world : PlainWorld) (p q : SinkState) : Type
    0 where
  pub result : Result GenerateResult Stop
  pub is : status ≡ exit_status (generate_exit result)
  pub end : RunState
  pub world_is : world ≡ end.world
  pub generates : Generates result g end p q

-- an allocation for the slots failed, and nothing happened
pub record IsNotGenerated (status : ℕ) (around : Around) (output : Object SinkState) : Type 0 where
  pub is : status ≡ exit_status NoMemory
  pub world : around.new ≡ around.old
  pub sink : output.new ≡ output.old

-- it is made at the time of the world's clock, which stands still
abbrev pub at_its_clock : Setting → Setting
at_its_clock setting = setting_of setting.players setting.delay

-- a generation over sixteen closed slots, with modelled objects
abbrev pub GeneratesBy : Setting → ℕ → List PlainSlot → ℕ → ℕ → Around → Object SinkState → Type 0
GeneratesBy setting status slots seed lines world output =
    IsGenerated status (generation setting seed lines (state_of slots world.old)) world.new
    output.old output.new
    ⊎ IsNotGenerated status world output
