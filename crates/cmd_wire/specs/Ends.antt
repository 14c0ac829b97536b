-- Which ends a run of frames makes, with real objects too (this project's own).
use Rattle.std.specs.Prelude.{◌≡◌, ◌⊎◌, ℕ, ◌+◌, ◌<◌, Bool, List, [], ◌∷◌, ◌++◌, length, IsTrue}
use Rattle.pam_base.specs.Code.{number_of}
use Rattle.pam_base.specs.declared.call.AppCall.TheVariants.{End}
use Rattle.pam_base.specs.declared.call.Step.{Step}
use Rattle.pam_wire.specs.Stream.{AreFramesOf}
use Rattle.record_reader.specs.declared.ending.Ending.{Ending}
use Rattle.record_reader.specs.declared.ending.Stop.{Stop}
use Rattle.frame_stream.specs.declared.fault.FrameFault.{FrameFault}
use Rattle.cmd_wire.specs.Endings.{ending_status, stop_status}

-- ---- by a frame

-- the call that ends the transaction of this number with this status
abbrev pub end_call : ℕ → ℕ → Step
end_call number status = record { number = number; call = End status }

-- Some bytes, after n frames, are the frames of steps, then that of this call, and others; with it there are at most
-- 65,536.
pub record HasEndFrom (n : ℕ) (bytes : List ℕ) (number status : ℕ) : Type 0 where
  pub before : List Step
  pub rest : List ℕ
  pub among : AreFramesOf bytes (before ++ end_call number status ∷ []) rest
  pub few : n + length before < 65536

-- ---- all ends

-- a status with which a run ends the transactions that are open after its frames
abbrev pub IsClosingStatus : ℕ → Type 0
IsClosingStatus status =
    ((ending : Ending FrameFault) × (status ≡ number_of (ending_status ending)))
    ⊎ ((stop : Stop) × (status ≡ number_of (stop_status stop)))

-- an end of a run of frames: if its input is modelled, one of its frames asks for it, or it was made after them
abbrev pub IsEndOfRun : Bool → List ℕ → ℕ → ℕ → Type 0
IsEndOfRun tells input number status =
    IsTrue tells → IsClosingStatus status ⊎ HasEndFrom 0 input number status
