-- The frames of steps are processed first.
use Rattle.std.proofs.Common.{◌≡◌, ℕ, ◌+◌, ◌≤◌, ◌<◌, Bool, true, false, cond, eqb, List, [], ◌∷◌, ◌++◌, length, drop, map, Some, None, refl, ap, subst, ◌∙◌, arith, append_assoc}
use Rattle.std.proofs.Math.Seq.{take-append_seam, drop-append_seam}
use Rattle.std.proofs.lemmas.Bool.{eqb-true}
use Rattle.pam_base.specs.declared.call.Step.{Step}
use Rattle.pam_wire.specs.declared.prefix.FirstFrame.{FirstFrame}
use Rattle.pam_wire.specs.declared.prefix.FirstFrame.TheVariants.{Open, OutOfRange, Whole}
use Rattle.pam_wire.specs.Frame.{has_frame, frame_of, frames_of}
use Rattle.pam_wire.specs.Laws.{FirstFrameSettles, ReadsTable, Settles}
use Rattle.pam_wire.specs.Read.{first_frame_of, step_in, step_by, step_of}
use Rattle.pam_wire.specs.Stream.{AreFramesOf}
use Rattle.frame_stream.specs.Laws.{StepsAreLookedAt}
use Rattle.frame_stream.specs.Looked.{looked}
use Rattle.frame_stream.proofs.CutFrameFacts.{looked-whole}

size_by : (bytes : List ℕ) (step : Step) (size : ℕ) (t : Bool) → eqb size (length bytes) ≡ t → cond t (step_in (drop 2 bytes)) None ≡ Some step → size ≡ length bytes
size_by bytes step size true h e = eqb-true size (length bytes) h
size_by bytes step size false h e = absurd cc

-- what is read as a step is a complete frame
whole_by : (bytes : List ℕ) (step : Step) (f : FirstFrame) → step_by f bytes ≡ Some step → f ≡ Whole (length bytes)
whole_by bytes step Open e = absurd cc
whole_by bytes step OutOfRange e = absurd cc
whole_by bytes step (Whole size) e = ap (λ n. Whole n) (size_by bytes step size _ refl e)

module _ (settles : FirstFrameSettles) (reads : ReadsTable) where
  pub first_frame_of-frame : (step : Step) (more : List ℕ) → has_frame step ≡ true → first_frame_of (frame_of step ++ more) ≡ Whole (length (frame_of step))
  first_frame_of-frame step more has =
      let read : step_of (frame_of step) ≡ Some step = (reads (frame_of step) step).0 (record { within = has; bytes_are = refl }) in
      let whole : first_frame_of (frame_of step) ≡ Whole (length (frame_of step)) = whole_by (frame_of step) step (first_frame_of (frame_of step)) read in
      let s : Settles (Whole (length (frame_of step))) (frame_of step) more = subst (λ f. Settles f (frame_of step) more) whole (settles (frame_of step) more) in
      s.2

  pub first : (n : ℕ) (step : Step) (more : List ℕ) (ended : Bool) → n < 65536 → has_frame step ≡ true → looked n (frame_of step ++ more) ended ≡ frame_of step ∷ looked (n + 1) more ended
  first n step more ended lt has =
      looked-whole settles n (frame_of step ++ more) (length (frame_of step)) ended lt (first_frame_of-frame step more has)
      ∙ ap (λ (z : List ℕ). z ∷ looked (n + 1) (drop (length (frame_of step)) (frame_of step ++ more)) ended) (take-append_seam (frame_of step) more)
      ∙ ap (λ (z : List ℕ). frame_of step ∷ looked (n + 1) z ended) (drop-append_seam (frame_of step) more)

  all : (steps : List Step) (n : ℕ) (bytes rest : List ℕ) (ended : Bool) → AreFramesOf bytes steps rest → n + length steps ≤ 65536 → looked n bytes ended ≡ map frame_of steps ++ looked (n + length steps) rest ended
  all [] n bytes rest ended is le =
      let k : n + 0 ≡ n = omega arith in
      rw k (ap (λ (z : List ℕ). looked n z ended) is.parts)
  all (step ∷ steps) n bytes rest ended is le =
      let k : n + length (step ∷ steps) ≡ (n + 1) + length steps = omega arith in
      let parts : bytes ≡ frame_of step ++ (frames_of steps ++ rest) = is.parts ∙ append_assoc (frame_of step) (frames_of steps) rest in
      rw k
      (ap (λ (z : List ℕ). looked n z ended) parts
      ∙ first n step (frames_of steps ++ rest) ended (omega (arith, le)) is.framed.0
      ∙ ap (λ (z : List (List ℕ)). frame_of step ∷ z) (all steps (n + 1) (frames_of steps ++ rest) rest ended (record { framed = is.framed.1; parts = refl }) (omega (arith, le))))

  pub steps_looked : StepsAreLookedAt
  steps_looked = λ n bytes steps rest ended is le. all steps n bytes rest ended is le
