-- What holds for frames.
use Rattle.std.proofs.Common.{◌≡◌, ℕ, ◌+◌, ◌-◌, Bool, true, false, eqb, cond, List, [], ◌∷◌, ◌++◌, length, take, drop, Option, Some, None, refl, sym, ap, ◌∙◌, arith, length-drop, append_assoc}
use Rattle.std.proofs.Math.Seq.{drop-append_seam}
use Rattle.std.proofs.lemmas.Bool.{eqb-true, eq-eqb}
use Rattle.std.proofs.lemmas.List.{append-nil, take_all, drop_all}
use Rattle.pam_base.specs.declared.call.Step.{Step}
use Rattle.pam_wire.specs.declared.prefix.FirstFrame.{FirstFrame}
use Rattle.pam_wire.specs.declared.prefix.FirstFrame.TheVariants.{Open, OutOfRange, Whole}
use Rattle.pam_wire.specs.declared.next.Next.TheVariants as next
use Rattle.pam_wire.specs.Frame.{IsFrame, AreBytes, has_frame, body_of, frame_of, frames_of}
use Rattle.pam_wire.specs.Read.{step_in, step_by, step_of, first_frame_of}
use Rattle.pam_wire.specs.Stream.{next_in, next_by, next_of, AreFramesOf, HasNoFrame}
use Rattle.pam_wire.specs.Laws.{ReadsTable, HasOneFrame, IsOneStep, BeginsNoOther, HasOneReading}
use Rattle.pam_wire.proofs.FrameBytesFacts.{step-read, body-size, sized-whole, frame-read, frame-written, same_step}

-- ---- what is read of some bytes is the step of a frame

frame_size : (step : Step) → length (frame_of step) ≡ length (body_of step) + 2
frame_size step = omega arith

frame_alone : (step : Step) → has_frame step ≡ true → step_of (frame_of step) ≡ Some step
frame_alone step e =
    let whole : first_frame_of (frame_of step) ≡ Whole (length (body_of step) + 2) = ap first_frame_of (sym (append-nil (frame_of step))) ∙ sized-whole (body_of step) [] (body-size step e) in
    let same : eqb (length (body_of step) + 2) (length (frame_of step)) ≡ true = eq-eqb _ _ (sym (frame_size step)) in
    ap (λ (f : FirstFrame). step_by f (frame_of step)) whole ∙ rw (same, step-read step e) refl

-- if all bytes are one frame
all_by : (bytes : List ℕ) (step : Step) (size : ℕ) (t : Bool) → AreBytes bytes → first_frame_of bytes ≡ Whole size → eqb size (length bytes) ≡ t → cond t (step_in (drop 2 bytes)) None ≡ Some step → IsFrame bytes step
all_by bytes step size false all w h e = absurd cc
all_by bytes step size true all w h e =
    let size_is = eqb-true size (length bytes) h in
    let whole : take (size - 2) (drop 2 bytes) ≡ drop 2 bytes = take_all (size - 2) (drop 2 bytes) (omega (arith, size_is, length-drop 2 bytes)) in
    let front : next_of bytes ≡ next.Frame step size = ap (λ (f : FirstFrame). next_by f bytes) w ∙ ap (λ (b : List ℕ). next_in (step_in b) size) whole ∙ ap (λ (o : Option Step). next_in o size) e in
    let f = frame-written bytes step size all front in
    record {
      within = f.within;
      bytes_are = f.parts ∙ ap (λ (z : List ℕ). frame_of step ++ z) (drop_all size bytes (omega (arith, size_is))) ∙ append-nil (frame_of step);
    }

read_by : (bytes : List ℕ) (step : Step) (f : FirstFrame) → AreBytes bytes → first_frame_of bytes ≡ f → step_by f bytes ≡ Some step → IsFrame bytes step
read_by bytes step Open all w e = absurd cc
read_by bytes step OutOfRange all w e = absurd cc
read_by bytes step (Whole size) all w e = all_by bytes step size _ all w refl e

pub reads_table : ReadsTable
reads_table = λ bytes step. (λ f. ap step_of f.bytes_are ∙ frame_alone step f.within, λ all e. read_by bytes step (first_frame_of bytes) all refl e)

-- ---- frames are unambiguous

pub one_frame : HasOneFrame
one_frame = λ step one other f g. f.bytes_are ∙ sym g.bytes_are

some_step : Step → Option Step → Step
some_step other None = other
some_step other (Some step) = step

pub one_step : IsOneStep
unfolding some_step
one_step = λ one other bytes f g.
    ap (some_step one) (sym (frame_alone one f.within) ∙ ap step_of (sym f.bytes_are) ∙ ap step_of g.bytes_are ∙ frame_alone other g.within)

-- two frames at the beginning of the same bytes
same_front : (one other : Step) (more left : List ℕ) → has_frame one ≡ true → has_frame other ≡ true → frame_of one ++ more ≡ frame_of other ++ left → one ≡ other
same_front one other more left e f same = same_step one other _ _ (sym (frame-read one more e) ∙ ap next_of same ∙ frame-read other left f)

same_after : (step : Step) (more left : List ℕ) → frame_of step ++ more ≡ frame_of step ++ left → more ≡ left
same_after step more left same =
    sym (drop-append_seam (frame_of step) more) ∙ ap (drop (length (frame_of step))) same ∙ drop-append_seam (frame_of step) left

pub begins_no_other : BeginsNoOther
begins_no_other = λ one other bytes more f g.
    let same : frame_of one ++ more ≡ frame_of other ++ [] = ap (λ (z : List ℕ). z ++ more) (sym f.bytes_are) ∙ g.bytes_are ∙ sym (append-nil (frame_of other)) in
    let is = same_front one other more [] f.within g.within same in
    same_after one more [] (same ∙ ap (λ (s : Step). frame_of s ++ []) (sym is))

-- ---- bytes have one reading

framed_first : (bytes : List ℕ) (step : Step) (steps : List Step) (rest : List ℕ) → AreFramesOf bytes (step ∷ steps) rest → AreFramesOf bytes (step ∷ []) (frames_of steps ++ rest)
framed_first bytes step steps rest is = record {
  framed = (is.framed.0, tt);
  parts = is.parts ∙ append_assoc (frame_of step) (frames_of steps) rest ∙ sym (append_assoc (frame_of step) [] (frames_of steps ++ rest));
}

both_readings : (steps others : List Step) (bytes rest left : List ℕ) → AreFramesOf bytes steps rest → HasNoFrame rest → AreFramesOf bytes others left → HasNoFrame left → (steps ≡ others) × (rest ≡ left)
both_readings [] [] bytes rest left f none g clear = (refl, sym f.parts ∙ g.parts)
both_readings [] (t ∷ ts) bytes rest left f none g clear = absurd (none t (frames_of ts ++ left) g.framed.0 (framed_first rest t ts left (record { framed = g.framed; parts = sym f.parts ∙ g.parts })))
both_readings (s ∷ ss) [] bytes rest left f none g clear = absurd (clear s (frames_of ss ++ rest) f.framed.0 (framed_first left s ss rest (record { framed = f.framed; parts = sym g.parts ∙ f.parts })))
both_readings (s ∷ ss) (t ∷ ts) bytes rest left f none g clear =
    let same : frame_of s ++ (frames_of ss ++ rest) ≡ frame_of t ++ (frames_of ts ++ left) = sym (append_assoc (frame_of s) (frames_of ss) rest) ∙ sym f.parts ∙ g.parts ∙ append_assoc (frame_of t) (frames_of ts) left in
    let first = same_front s t _ _ f.framed.0 g.framed.0 same in
    let the_rest : frames_of ss ++ rest ≡ frames_of ts ++ left = same_after s _ _ (same ∙ ap (λ (z : Step). frame_of z ++ (frames_of ts ++ left)) (sym first)) in
    let others = both_readings ss ts (frames_of ss ++ rest) rest left (record { framed = f.framed.1; parts = refl }) none (record { framed = g.framed.1; parts = the_rest }) clear in
    (rw (first, others.0) refl, others.1)

pub one_reading : HasOneReading
one_reading = λ bytes steps others rest left f none g clear. both_readings steps others bytes rest left f none g clear
