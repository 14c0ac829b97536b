-- The steps that were returned are those of the bytes fed.
use Rattle.std.proofs.Common.{◌≡◌, ℕ, ◌+◌, ◌<◌, true, List, [], ◌∷◌, ◌++◌, length, drop, sym, ap, ◌∙◌, arith, length-append, append_assoc}
use Rattle.std.proofs.lemmas.List.{append-nil}
use Rattle.std.proofs.lemmas.List.Elements.{All-drop, All-same}
use Rattle.std.proofs.Math.Seq.{drop-append_seam}
use Rattle.std.specs.List.{AllByRecursion}
use Rattle.pam_base.specs.declared.call.Step.{Step}
use Rattle.pam_wire.specs.declared.next.Next.TheVariants as next
use Rattle.pam_wire.specs.Frame.{AreBytes, has_frame, frame_of, frames_of}
use Rattle.pam_wire.specs.Stream.{FramesState, next_of, IsOpen, Gave}
use Rattle.pam_wire.proofs.FrameBytesFacts.{frame-written}
use Rattle.pam_wire.proofs.IncompleteFrameFacts.{next-open}

frames_of-append : (steps : List Step) (step : Step) → frames_of (steps ++ step ∷ []) ≡ frames_of steps ++ frame_of step
frames_of-append [] step = append-nil (frame_of step)
frames_of-append (s ∷ steps) step = ap (λ (z : List ℕ). frame_of s ++ z) (frames_of-append steps step) ∙ sym (append_assoc (frame_of s) (frames_of steps) (frame_of step))

framed-append : (steps : List Step) (step : Step) → AllByRecursion (λ (s : Step). has_frame s ≡ true) steps → has_frame step ≡ true → AllByRecursion (λ (s : Step). has_frame s ≡ true) (steps ++ step ∷ [])
framed-append [] step all e = (e, tt)
framed-append (s ∷ steps) step all e = (all.0, framed-append steps step all.1 e)

-- the numbers after the steps returned are bytes
rest-bytes : (fed : List ℕ) (steps : List Step) (now : FramesState) → AreBytes fed → Gave fed steps now → AreBytes now.rest
rest-bytes fed steps now all g =
    All-same (λ b. b < 256) now.rest (drop (length (frames_of steps)) fed) (sym (ap (drop (length (frames_of steps))) g.frames.parts ∙ drop-append_seam (frames_of steps) now.rest))
    (All-drop (λ b. b < 256) (length (frames_of steps)) fed all)

pub gave_next : (fed : List ℕ) (steps : List Step) (now : FramesState) (step : Step) (size : ℕ) → AreBytes fed → Gave fed steps now → next_of now.rest ≡ next.Frame step size
    → Gave fed (steps ++ step ∷ []) (record { place = now.place + size; rest = drop size now.rest })
gave_next fed steps now step size all g e =
    let f = frame-written now.rest step size (rest-bytes fed steps now all g) e in
    record {
      frames = record {
        framed = framed-append steps step g.frames.framed f.within;
        parts = g.frames.parts ∙ ap (λ (z : List ℕ). frames_of steps ++ z) f.parts ∙ sym (append_assoc (frames_of steps) (frame_of step) (drop size now.rest))
            ∙ ap (λ (z : List ℕ). z ++ drop size now.rest) (sym (frames_of-append steps step));
      };
      place = omega (arith, g.place, f.size_is, ap length (frames_of-append steps step), length-append (frames_of steps) (frame_of step));
    }

pub gave_open : (fed : List ℕ) (steps : List Step) (now : FramesState) → AreBytes fed → Gave fed steps now → next_of now.rest ≡ next.Open → IsOpen now.rest
gave_open fed steps now all g e = next-open now.rest (rest-bytes fed steps now all g) e
