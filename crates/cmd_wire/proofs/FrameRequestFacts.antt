-- The frames that were found in a modelled input, and what they ask for.
use Rattle.std.proofs.Common.{◌≡◌, ◌+◌, inl, inr, ℕ, suc, Bool, true, false, cond, leb, List, [], ◌∷◌, ◌++◌, length, Option, Some}
use Rattle.std.proofs.Common.{None, Ok, Err, refl, sym, ◌∙◌, ap, append_assoc, arith}
use Rattle.std.specs.List.{AllByRecursion, concat}
use Rattle.std.proofs.lemmas.Bool.{leb-false}
use Rattle.pam_base.specs.Code.{number_of}
use Rattle.pam_base.specs.declared.code.Code.{Code}
use Rattle.pam_base.specs.declared.call.Step.{Step}
use Rattle.pam_wire.specs.Frame.{IsFrame, has_frame, frame_of, frames_of}
use Rattle.pam_wire.specs.Laws.{ReadsTable}
use Rattle.pam_wire.specs.Read.{step_of}
use Rattle.pam_wire.specs.Stream.{AreFramesOf}
use Rattle.record_reader.specs.declared.ending.Ending.{Ending}
use Rattle.record_reader.specs.declared.ending.Stop.{Stop}
use Rattle.frame_stream.specs.declared.fault.FrameFault.{FrameFault}
use Rattle.frame_stream.specs.declared.fault.FrameFault.TheVariants.{TooManyFrames}
use Rattle.frame_stream.specs.Laws.{AllAreLookedAt}
use Rattle.frame_stream.specs.Looked.{looked}
use Rattle.cmd_run.specs.script_lang.specs.declared.line.Line.{Line}
use Rattle.cmd_run.specs.script_lang.specs.declared.line.Line.TheVariants as lines
use Rattle.cmd_run.specs.Asked.{AreAccepted, HasEndAmong, IsEndAmong}
use Rattle.cmd_run.specs.Ends.{IsStatusOf}
use Rattle.cmd_wire.specs.Endings.{ending_status, stop_status}
use Rattle.cmd_wire.specs.Ends.{HasEndFrom, IsEndOfRun, end_call}
use Rattle.cmd_wire.specs.Step.{frame_asked, framed}

-- ---- frames after one another

abbrev Framed : List Step → Type 0
Framed steps = AllByRecursion (λ (step : Step). has_frame step ≡ true) steps

frames-append : (a b : List Step) → frames_of (a ++ b) ≡ frames_of a ++ frames_of b
frames-append [] b = refl
frames-append (step ∷ a) b = ap (λ (z : List ℕ). frame_of step ++ z) (frames-append a b) ∙ sym (append_assoc (frame_of step) (frames_of a) (frames_of b))

framed-append : (a b : List Step) → Framed a → Framed b → Framed (a ++ b)
framed-append [] b x y = y
framed-append (step ∷ a) b x y = (x.0, framed-append a b x.1 y)

joined : (bytes middle rest : List ℕ) (a b : List Step) → AreFramesOf bytes a middle → AreFramesOf middle b rest → AreFramesOf bytes (a ++ b) rest
joined bytes middle rest a b x y = record {
  framed = framed-append a b x.framed y.framed;
  parts = x.parts ∙ ap (λ (z : List ℕ). frames_of a ++ z) y.parts ∙ sym (append_assoc (frames_of a) (frames_of b) rest)
      ∙ ap (λ (z : List ℕ). z ++ rest) (sym (frames-append a b));
}

one_framed : (bytes frame rest : List ℕ) (step : Step) → bytes ≡ frame ++ rest → IsFrame frame step → AreFramesOf bytes (step ∷ []) rest
one_framed bytes frame rest step parts f = record {
  framed = (f.within, tt);
  parts = parts ∙ ap (λ (z : List ℕ). z ++ rest) f.bytes_are ∙ sym (append_assoc (frame_of step) [] rest);
}

-- ---- items of a stream that are accepted

asked_some : (many : Bool) (found : Option Step) (line : Line) → cond many (Err TooManyFrames) (framed found) ≡ Ok line → (step : Step) × (found ≡ Some step)
asked_some true found line e = absurd cc
asked_some false None line e = absurd cc
asked_some false (Some step) line e = (step, refl)

asked_step : (many : Bool) (found : Option Step) (step : Step) → cond many (Err TooManyFrames) (framed found) ≡ Ok (lines.Step step) → found ≡ Some step
asked_step true found step e = absurd cc
asked_step false None step e = absurd cc
asked_step false (Some other) step e =
    let same : other ≡ step = cc in
    ap Some same

pub as_step : (n : ℕ) (frame : List ℕ) (step : Step) → frame_asked n frame ≡ Ok (lines.Step step) → step_of frame ≡ Some step
as_step n frame step e = asked_step (leb 65536 n) (step_of frame) step e

few_by : (many : Bool) (found : Option Step) (line : Line) → cond many (Err TooManyFrames) (framed found) ≡ Ok line → many ≡ false
few_by true found line e = absurd cc
few_by false found line e = refl

-- the frames of steps, joined
record AreFrames (items : List (List ℕ)) : Type 0 where
  steps : List Step
  framed_all : Framed steps
  bytes : concat items ≡ frames_of steps
  count : length steps ≡ length items

are_frames : ReadsTable → (n : ℕ) (items : List (List ℕ)) → AreAccepted frame_asked n items → AreFrames items
are_frames law n [] a = record { steps = []; framed_all = tt; bytes = refl; count = refl }
are_frames law n (item ∷ items) a =
    let one : (step : Step) × (step_of item ≡ Some step) = asked_some (leb 65536 n) (step_of item) a.0.line a.0.asks in
    let f : IsFrame item one.0 = (law item one.0).1 a.0.bytes one.1 in
    let rest : AreFrames items = are_frames law (n + 1) items a.1 in
    record {
      steps = one.0 ∷ rest.steps;
      framed_all = (f.within, rest.framed_all);
      bytes = ap (λ (z : List ℕ). z ++ concat items) f.bytes_are ∙ ap (λ (z : List ℕ). frame_of one.0 ++ z) rest.bytes;
      count = ap suc rest.count;
    }

concat-append : (xs ys : List (List ℕ)) → concat (xs ++ ys) ≡ concat xs ++ concat ys
concat-append [] ys = refl
concat-append (x ∷ xs) ys = ap (λ (z : List ℕ). x ++ z) (concat-append xs ys) ∙ sym (append_assoc x (concat xs) (concat ys))

-- an item that asks for an end, after items that are accepted, is a frame after frames
has_end : AllAreLookedAt → ReadsTable → (input : List ℕ) (number status : ℕ) → HasEndAmong looked frame_asked 0 input number status
    → HasEndFrom 0 input number status
has_end all law input number status h =
    let before : AreFrames h.before = are_frames law 0 h.before h.accepted in
    let f : IsFrame h.item (end_call number status) = (law h.item (end_call number status)).1 h.bytes (as_step _ h.item (end_call number status) h.asks) in
    let followed : List ℕ = concat h.followed in
    let parts : input ≡ frames_of before.steps ++ (h.item ++ followed) =
    sym (all 0 input) ∙ ap concat h.among ∙ concat-append h.before (h.item ∷ h.followed) ∙ ap (λ (z : List ℕ). z ++ (h.item ++ followed)) before.bytes in
    let front : AreFramesOf input before.steps (h.item ++ followed) = record { framed = before.framed_all; parts = parts } in
    record {
      before = before.steps;
      rest = followed;
      among = joined input (h.item ++ followed) followed before.steps (end_call number status ∷ []) front
          (one_framed (h.item ++ followed) h.item followed (end_call number status) refl f);
      few = omega (arith, leb-false 65536 (0 + length h.before) (few_by (leb 65536 (0 + length h.before)) (step_of h.item) _ h.asks), before.count);
    }

-- ---- after the frames

pub by_ending : (tells : Bool) (input : List ℕ) (ending : Ending FrameFault) (code : Code) → code ≡ ending_status ending → (number status : ℕ)
    → IsStatusOf code number status → IsEndOfRun tells input number status
by_ending tells input ending code e number status is told = inl (inl (ending, is ∙ ap number_of e))

pub by_stop : (tells : Bool) (input : List ℕ) (stop : Stop) (code : Code) → code ≡ stop_status stop → (number status : ℕ) → IsStatusOf code number status
    → IsEndOfRun tells input number status
by_stop tells input stop code e number status is told = inl (inr (stop, is ∙ ap number_of e))

pub by_frame : AllAreLookedAt → ReadsTable → (tells : Bool) (input : List ℕ) (number status : ℕ) → IsEndAmong looked frame_asked tells 0 input number status
    → IsEndOfRun tells input number status
by_frame all law tells input number status has told = inr (has_end all law input number status (has told))
