-- What holds for frames, in terms that no reader uses (this project's own).
use Rattle.std.specs.Prelude.{◌≡◌, ◌<◌, ◌≤◌, ℕ, List, [], ◌++◌, length, Some}
use Rattle.pam_base.specs.declared.call.Step.{Step}
use Rattle.pam_wire.specs.declared.prefix.FirstFrame.{FirstFrame}
use Rattle.pam_wire.specs.declared.prefix.FirstFrame.TheVariants.{Open, OutOfRange, Whole}
use Rattle.pam_wire.specs.Frame.{IsFrame, AreBytes}
use Rattle.pam_wire.specs.Read.{first_frame_of, step_of}
use Rattle.pam_wire.specs.Stream.{AreFramesOf, HasNoFrame, IsOpen}

-- a frame by the table is read as its step, and if bytes are read as a step they are its frame
abbrev pub ReadsTable : Type 0
ReadsTable = (bytes : List ℕ) (step : Step) → (IsFrame bytes step → step_of bytes ≡ Some step)
    × (AreBytes bytes → step_of bytes ≡ Some step → IsFrame bytes step)

-- no step has two frames
abbrev pub HasOneFrame : Type 0
HasOneFrame = (step : Step) (one other : List ℕ) → IsFrame one step → IsFrame other step
    → one ≡ other

-- no bytes are the frames of two steps
abbrev pub IsOneStep : Type 0
IsOneStep = (one other : Step) (bytes : List ℕ) → IsFrame bytes one → IsFrame bytes other
    → one ≡ other

-- a frame that begins with a frame is that frame
abbrev pub BeginsNoOther : Type 0
BeginsNoOther = (one other : Step) (bytes more : List ℕ) → IsFrame bytes one
    → IsFrame (bytes ++ more) other → more ≡ []

-- However some bytes are cut into steps' frames and a rest that doesn't begin with a frame, the
-- steps and the rest are the same.
abbrev pub HasOneReading : Type 0
HasOneReading = (bytes : List ℕ) (steps others : List Step) (rest left : List ℕ)
    → AreFramesOf bytes steps rest → HasNoFrame rest
    → AreFramesOf bytes others left → HasNoFrame left → (steps ≡ others) × (rest ≡ left)

-- What some bytes begin with stays the same, whatever follows them: a frame, or a length that no
-- frame has. An incomplete frame has at most 581 bytes.
abbrev pub Settles : FirstFrame → List ℕ → List ℕ → Type 0
Settles (Whole size) bytes more =
    (4 ≤ size) × (size ≤ length bytes) × (first_frame_of (bytes ++ more) ≡ Whole size)
Settles OutOfRange bytes more = (0 < length bytes) × (first_frame_of (bytes ++ more) ≡ OutOfRange)
Settles Open bytes more = length bytes ≤ 581

abbrev pub FirstFrameSettles : Type 0
FirstFrameSettles = (bytes more : List ℕ) → Settles (first_frame_of bytes) bytes more

-- Some bytes are an incomplete frame if and only if they are the beginning of one whose length is
-- in range.
abbrev pub OpensByTable : Type 0
OpensByTable = (rest : List ℕ) → (AreBytes rest → first_frame_of rest ≡ Open → IsOpen rest)
    × (IsOpen rest → first_frame_of rest ≡ Open)
