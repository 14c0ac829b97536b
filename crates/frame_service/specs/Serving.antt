-- A run of frames, with what `pamsess` promises for `wire` (this project's own).
use Rattle.std.specs.Prelude.{◌≡◌, ℕ, List, Option, Some}
use Rattle.pam_outside.specs.Streams.{SourceState, SinkState}
use Rattle.pam_room.specs.Module.{notes_of}
use Rattle.cmd_all.specs.ByCommand.{Around, GoesBy, Object, ReadCauses, Setup, WiresSo, WriteCauses}
use Rattle.cmd_all.specs.CleanedUp.{IsCleanedUp, MayEnd}
use Rattle.cmd_all.specs.Command.{Command, wires}

-- a run with this setup, by its exit status
pub record ServesFrames (asked : Option Command) (status : ℕ) (setup : Setup) (world : Around)
    (input : Object SourceState) (output : Object SinkState) : Type 0 where
  -- the answers to the calls that the bytes spell, and the world after them
  pub wire : (root : List ℕ) → asked ≡ Some (wires root)
      → WiresSo root status setup world input output
  -- the causes of the status, with real objects too
  pub command : GoesBy asked status input
  pub read_causes : ReadCauses status input
  pub write_causes : WriteCauses status world output
  -- with real objects too: every module data set was cleaned up exactly once, with its due status
  pub cleaned_up : IsCleanedUp (MayEnd asked input.tells input.old.left status)
      (notes_of setup.players) world.new.process.ledger
