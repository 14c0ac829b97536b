-- Which steps some bytes spell, and what follows their frames, in definitions that no reader uses
-- (this project's own).
use Rattle.std.specs.Prelude.{◌≡◌, ◌⊎◌, ℕ, ◌+◌, ◌<◌, ◌≤◌, Bool, true, List, [], ◌∷◌, ◌++◌, length, Option, Some, None}
use Rattle.pam_base.specs.declared.call.Step.{Step}
use Rattle.pam_wire.specs.Stream.{AreFramesOf, HasNoFrame, IsOpen}
use Rattle.frame_stream.specs.declared.fault.FrameFault.{FrameFault}
use Rattle.frame_stream.specs.declared.fault.FrameFault.TheVariants.{BadFrame, TooManyFrames}
use Rattle.frame_stream.specs.Run.{CallStep}

-- Whether what follows n frames is refused; `ended` says that the input ends after it. It isn't if
-- it is nothing, or the beginning of a frame that may still come. It is a bad frame if it doesn't
-- begin with a frame, and the input ends or it is not even the beginning of one; and one frame too
-- many if it is anything after 65,536.
abbrev pub IsPast : ℕ → List ℕ → Bool → Option FrameFault → Type 0
IsPast n rest ended None = IsOpen rest × (ended ≡ true → rest ≡ []) × (65536 ≤ n → rest ≡ [])
IsPast n rest ended (Some BadFrame) =
    (n < 65536) × HasNoFrame rest × (((ended ≡ true) × (0 < length rest)) ⊎ (IsOpen rest → ⊥))
IsPast n rest ended (Some TooManyFrames) = (65536 ≤ n) × (0 < length rest)

-- The bytes are the frames of these steps, at most 65,536 with the n before them, and a rest after
-- them.
pub record SpellsFrom (n : ℕ) (bytes : List ℕ) (ended : Bool) (steps : List Step) (rest : List ℕ)
    (fault : Option FrameFault) : Type 0 where
  pub frames : AreFramesOf bytes steps rest
  pub few : n + length steps ≤ 65536
  pub followed : IsPast (n + length steps) rest ended fault

-- the same from the first byte on
abbrev pub Spells : List ℕ → Bool → List Step → List ℕ → Option FrameFault → Type 0
Spells bytes ended steps rest fault = SpellsFrom 0 bytes ended steps rest fault

-- what is written for steps that n others come before, one answer after the other, and the state after them
module _ {State : Type 0} (answers : CallStep State) where
  abbrev pub answers_to : ℕ → State → List Step → List ℕ
  answers_to n s [] = []
  answers_to n s (step ∷ steps) =
      (answers n s step).1 ++ answers_to (n + 1) (answers n s step).0 steps

  abbrev pub state_past : ℕ → State → List Step → State
  state_past n s [] = s
  state_past n s (step ∷ steps) = state_past (n + 1) (answers n s step).0 steps
