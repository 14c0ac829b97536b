-- Which frames of a stream are processed, of the bytes read so far.
use Rattle.std.specs.Prelude.{◌≡◌, ◌⊎◌, ℕ, zero, suc, ◌+◌, ◌≤◌, Bool, List, [], ◌∷◌, length, take, drop, None, nat_le, if◌then◌else◌}
use Rattle.pam_wire.specs.declared.prefix.FirstFrame.{FirstFrame}
use Rattle.pam_wire.specs.declared.prefix.FirstFrame.TheVariants.{Open, OutOfRange, Whole}
use Rattle.pam_wire.specs.Read.{first_frame_of, step_of}

-- A complete frame is read, and then what follows it. A length that no frame has is read with everything after it, and
-- so is the beginning of a frame when the input has ended.
abbrev pub looked_by : FirstFrame → List ℕ → Bool → (ℕ → List (List ℕ)) → List (List ℕ)
looked_by Open bytes ended followed = if ended then bytes ∷ [] else []
looked_by OutOfRange bytes ended followed = bytes ∷ []
looked_by (Whole size) bytes ended followed = take size bytes ∷ followed size

-- the frames among some bytes after n others; at most `most` of them
unfoldable pub looked_most : ℕ → ℕ → List ℕ → Bool → List (List ℕ)
looked_most most n [] ended = []
looked_most zero n (b ∷ bs) ended = []
looked_most (suc most) n (b ∷ bs) ended =
    if nat_le 65536 n then (b ∷ bs) ∷ []
    else looked_by (first_frame_of (b ∷ bs)) (b ∷ bs) ended
    (λ size. looked_most most (n + 1) (drop size (b ∷ bs)) ended)

-- a frame has at least one byte, so there are at most as many frames as bytes
unfoldable pub looked : ℕ → List ℕ → Bool → List (List ℕ)
looked n bytes ended = looked_most (length bytes) n bytes ended

-- a frame that is one too many, or that isn't a call
abbrev pub refuses : ℕ → List ℕ → Type 0
refuses n frame = (65536 ≤ n) ⊎ (step_of frame ≡ None)
