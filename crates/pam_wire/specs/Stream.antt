-- Frames, taken from bytes that are fed piece by piece (this project's own).
use Rattle.std.specs.Prelude.{◌≡◌, ℕ, ◌+◌, ◌-◌, ◌<◌, ◌≤◌, List, [], ◌∷◌, ◌++◌, length, take, drop, Option, Some, None, Result, Ok, Err, IsTrue}
use Rattle.std.specs.List.{AllByRecursion}
use Rattle.pam_base.specs.declared.call.Step.{Step}
use Rattle.pam_base.specs.declared.fault.Refuse.{Refuse}
use Rattle.pam_base.specs.declared.fault.Refuse.TheVariants.{NoMemory, Named}
use Rattle.pam_wire.specs.declared.prefix.FirstFrame.{FirstFrame}
use Rattle.pam_wire.specs.declared.prefix.FirstFrame.TheVariants.{Open, OutOfRange, Whole}
use Rattle.pam_wire.specs.declared.frames.BadFrame.{BadFrame}
use Rattle.pam_wire.specs.declared.next.Next.{Next}
use Rattle.pam_wire.specs.declared.next.Next.TheVariants as next
use Rattle.pam_wire.specs.Frame.{has_frame, sized, frames_of}
use Rattle.pam_wire.specs.Read.{first_frame_of, step_in}

-- how many bytes come before the next frame, and the bytes from there on
pub record FramesState : Type 0 where
  pub place : ℕ
  pub rest : List ℕ

-- ---- what comes next

-- the step of a whole frame, if it has one
abbrev pub next_in : Option Step → ℕ → Next
next_in None size = next.Bad
next_in (Some step) size = next.Frame step size

abbrev pub next_by : FirstFrame → List ℕ → Next
next_by Open rest = next.Open
next_by OutOfRange rest = next.Bad
next_by (Whole size) rest = next_in (step_in (take (size - 2) (drop 2 rest))) size

abbrev pub next_of : List ℕ → Next
next_of rest = next_by (first_frame_of rest) rest

-- the bytes begin with the frame of a step
abbrev pub IsStep : Next → Type 0
IsStep (next.Frame step size) = Unit {0}
IsStep next.Open = ⊥
IsStep next.Bad = ⊥

-- the next step is taken, or there is none yet, or there is no frame; if an allocation fails,
-- nothing changes
abbrev pub Nexts : Result (Option Step) (Refuse BadFrame) → FramesState → FramesState → Type 0
Nexts (Ok (Some step)) old new =
    (size : ℕ) × (next_of old.rest ≡ next.Frame step size)
    × (new ≡ record { place = old.place + size; rest = drop size old.rest })
Nexts (Ok None) old new = (next_of old.rest ≡ next.Open) × (new ≡ old)
Nexts (Err (Named fault)) old new =
    (next_of old.rest ≡ next.Bad) × (fault.place ≡ old.place) × (new ≡ old)
Nexts (Err NoMemory) old new = new ≡ old

-- ---- the same by the table of frames alone

-- from 2 to 580 bytes follow a length
abbrev pub IsBody : List ℕ → Type 0
IsBody body = (2 ≤ length body) × (length body ≤ 580)

-- nothing, or a proper prefix of a frame whose length is in range
pub record IsOpen (rest : List ℕ) : Type 0 where
  pub body : List ℕ
  pub more : List ℕ
  pub body_is : IsBody body
  pub some : 0 < length more
  pub parts : sized body ≡ rest ++ more

-- the bytes are the frames of these steps, and a rest after them
pub record AreFramesOf (bytes : List ℕ) (steps : List Step) (rest : List ℕ) : Type 0 where
  pub framed : AllByRecursion (λ (step : Step). IsTrue (has_frame step)) steps
  pub parts : bytes ≡ frames_of steps ++ rest

-- the rest doesn't begin with the frame of a step
abbrev pub HasNoFrame : List ℕ → Type 0
HasNoFrame rest = (step : Step) (more : List ℕ) → IsTrue (has_frame step)
    → AreFramesOf rest (step ∷ []) more → ⊥

-- what was fed, and the steps that were returned
pub record Gave (fed : List ℕ) (steps : List Step) (now : FramesState) : Type 0 where
  pub frames : AreFramesOf fed steps now.rest
  pub place : now.place ≡ length (frames_of steps)

-- The steps returned are those that the bytes fed begin with, and a step is returned if there is
-- one more; None if and only if what follows them is incomplete; a fault names the first byte after
-- them.
abbrev pub GivesNext : Result (Option Step) (Refuse BadFrame) → List ℕ → List Step → FramesState
    → Type 0
GivesNext (Ok (Some step)) fed steps new = Gave fed (steps ++ step ∷ []) new
GivesNext (Ok None) fed steps new = Gave fed steps new × IsOpen new.rest
GivesNext (Err (Named fault)) fed steps new =
    Gave fed steps new × HasNoFrame new.rest × (IsOpen new.rest → ⊥)
    × (fault.place ≡ length (frames_of steps))
GivesNext (Err NoMemory) fed steps new = Gave fed steps new
