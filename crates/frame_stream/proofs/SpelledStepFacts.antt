-- Which steps some bytes spell, and the result of a run over them.
use Rattle.std.proofs.Common.{◌≡◌, ℕ, zero, suc, ◌+◌, ◌≤◌, ◌<◌, ◌⊎◌, inl, inr, Bool, true, false, cond, List, [], ◌∷◌, ◌++◌, length, take, drop, Option, Some, None, Result, Ok, Err, refl, sym, ap, subst, ◌∙◌, arith, append_assoc, length-drop}
use Rattle.std.specs.List.{concat}
use Rattle.std.proofs.Math.Seq.{take-append_seam, drop-append_seam}
use Rattle.std.proofs.lemmas.Bool.{cases_lt, le-leb, lt-leb}
use Rattle.std.proofs.lemmas.List.{append-nil, take-append-drop}
use Rattle.std.proofs.lemmas.List.Elements.{All-drop, All-same, All-take}
use Rattle.pam_base.specs.declared.call.Step.{Step}
use Rattle.pam_wire.specs.declared.prefix.FirstFrame.{FirstFrame}
use Rattle.pam_wire.specs.declared.prefix.FirstFrame.TheVariants.{Open, OutOfRange, Whole}
use Rattle.pam_wire.specs.Frame.{AreBytes, IsFrame, has_frame, frame_of, frames_of}
use Rattle.pam_wire.specs.Laws.{FirstFrameSettles, OpensByTable, ReadsTable}
use Rattle.pam_wire.specs.Read.{first_frame_of, step_by, step_of}
use Rattle.pam_wire.specs.Stream.{AreFramesOf, HasNoFrame, IsOpen}
use Rattle.record_reader.specs.Run.{Run, after, come_to, run_items, run_of, with_text}
use Rattle.frame_stream.specs.declared.fault.FrameFault.{FrameFault}
use Rattle.frame_stream.specs.declared.fault.FrameFault.TheVariants.{BadFrame, TooManyFrames}
use Rattle.frame_stream.specs.Laws.{AllAreLookedAt, BytesSpell, PrefixIsOfSteps, RunIsOfSteps, ServedAreSteps}
use Rattle.frame_stream.specs.Looked.{looked}
use Rattle.frame_stream.specs.Run.{CallStep, called, step_at}
use Rattle.frame_stream.specs.Spelled.{IsPast, SpellsFrom, answers_to, state_past}
use Rattle.frame_stream.proofs.CutFrameFacts.{looked-many, looked-none, looked-open, looked-out, looked-whole, refused_run, step-bad, step-many, whole_of, whole_run}
use Rattle.frame_stream.proofs.FirstFrameFacts.{first, first_frame_of-frame}

not_both : (f : FirstFrame) (size : ℕ) → f ≡ Open → f ≡ Whole size → ⊥
not_both f size e w =
    let no : ◌≡◌ {A = FirstFrame} Open (Whole size) = sym e ∙ w in
    absurd cc

not_out : (f : FirstFrame) → f ≡ Open → f ≡ OutOfRange → ⊥
not_out f e o =
    let no : ◌≡◌ {A = FirstFrame} Open OutOfRange = sym e ∙ o in
    absurd cc

out_whole : (f : FirstFrame) (size : ℕ) → f ≡ OutOfRange → f ≡ Whole size → ⊥
out_whole f size e w =
    let no : ◌≡◌ {A = FirstFrame} OutOfRange (Whole size) = sym e ∙ w in
    absurd cc

same_size : (f : FirstFrame) (a b : ℕ) → f ≡ Whole a → f ≡ Whole b → a ≡ b
same_size f a b e w =
    let same : ◌≡◌ {A = FirstFrame} (Whole a) (Whole b) = sym e ∙ w in
    cc

not_none : (o : Option Step) (step : Step) → o ≡ Some step → o ≡ None → ⊥
not_none o step e n =
    let no : ◌≡◌ {A = Option Step} (Some step) None = sym e ∙ n in
    absurd cc

module _ (settles : FirstFrameSettles) where
  -- ---- all bytes are processed

  all_front : (n : ℕ) (bytes : List ℕ) (f : FirstFrame) → n < 65536 → 0 < length bytes → first_frame_of bytes ≡ f
      → ((size : ℕ) → 4 ≤ size → concat (looked (n + 1) (drop size bytes) true) ≡ drop size bytes) → concat (looked n bytes true) ≡ bytes
  all_front n bytes Open lt some e next = ap concat (looked-open n bytes true lt e some) ∙ append-nil bytes
  all_front n bytes OutOfRange lt some e next = ap concat (looked-out n bytes true lt e) ∙ append-nil bytes
  all_front n bytes (Whole size) lt some e next =
      ap concat (looked-whole settles n bytes size true lt e) ∙ ap (λ (z : List ℕ). take size bytes ++ z) (next size (whole_of settles bytes size e).some) ∙ take-append-drop size bytes

  all_most : (most n : ℕ) (bytes : List ℕ) → length bytes ≤ most → concat (looked n bytes true) ≡ bytes
  all_most most n [] le = ap concat (looked-none n true)
  all_most zero n (b ∷ bs) le = absurd (omega arith)
  all_most (suc most) n (b ∷ bs) le = elim (cases_lt n 65536) [
    | inl lt ↦ all_front n (b ∷ bs) (first_frame_of (b ∷ bs)) lt (omega arith) refl (λ size some. all_most most (n + 1) (drop size (b ∷ bs)) (omega (arith, length-drop size (b ∷ bs), le, some)))
    | inr ge ↦ ap concat (looked-many n (b ∷ bs) true ge (omega arith)) ∙ append-nil (b ∷ bs)
  ]

  pub all_looked : AllAreLookedAt
  all_looked = λ n bytes. all_most (length bytes) n bytes (omega arith)

module _ (settles : FirstFrameSettles) (reads : ReadsTable) (opens : OpensByTable) where
  -- ---- what the bytes begin with

  one_parts : (rest : List ℕ) (step : Step) (more : List ℕ) → AreFramesOf rest (step ∷ []) more → rest ≡ frame_of step ++ more
  one_parts rest step more is = is.parts ∙ append_assoc (frame_of step) [] more

  framed_front : (rest : List ℕ) (step : Step) (more : List ℕ) → has_frame step ≡ true → AreFramesOf rest (step ∷ []) more → first_frame_of rest ≡ Whole (length (frame_of step))
  framed_front rest step more has is = ap first_frame_of (one_parts rest step more is) ∙ first_frame_of-frame settles reads step more has

  open_none : (rest : List ℕ) → first_frame_of rest ≡ Open → HasNoFrame rest
  open_none rest e = λ step more has is. not_both (first_frame_of rest) _ e (framed_front rest step more has is)

  out_none : (rest : List ℕ) → first_frame_of rest ≡ OutOfRange → HasNoFrame rest
  out_none rest e = λ step more has is. out_whole (first_frame_of rest) _ e (framed_front rest step more has is)

  -- a complete one that isn't a call
  call_none : (rest : List ℕ) (size : ℕ) → first_frame_of rest ≡ Whole size → step_of (take size rest) ≡ None → HasNoFrame rest
  call_none rest size w none = λ step more has is.
      let same : size ≡ length (frame_of step) = same_size (first_frame_of rest) _ _ w (framed_front rest step more has is) in
      let taken : take size rest ≡ frame_of step =
      ap (λ (n : ℕ). take n rest) same ∙ ap (take (length (frame_of step))) (one_parts rest step more is) ∙ take-append_seam (frame_of step) more in
      let read : step_of (take size rest) ≡ Some step = ap step_of taken ∙ (reads (frame_of step) step).0 (record { within = has; bytes_are = refl }) in
      not_none (step_of (take size rest)) step read none

  -- a complete one that is a call
  record IsCut (rest : List ℕ) (step : Step) (more : List ℕ) : Type 0 where
    within : has_frame step ≡ true
    parts : rest ≡ frame_of step ++ more

  frame_in : (rest : List ℕ) (size : ℕ) (step : Step) → AreBytes rest → step_of (take size rest) ≡ Some step → IsFrame (take size rest) step
  frame_in rest size step all e = (reads (take size rest) step).1 (All-take (λ b. b < 256) size rest all) e

  cut_of : (rest : List ℕ) (size : ℕ) (step : Step) → AreBytes rest → step_of (take size rest) ≡ Some step → IsCut rest step (drop size rest)
  cut_of rest size step all e =
      let f = frame_in rest size step all e in
      record { within = f.within; parts = sym (take-append-drop size rest) ∙ ap (λ (z : List ℕ). z ++ drop size rest) f.bytes_are }

  one_framed : (rest : List ℕ) (step : Step) (more : List ℕ) → IsCut rest step more → AreFramesOf rest (step ∷ []) more
  one_framed rest step more c = record { framed = (c.within, tt); parts = c.parts ∙ sym (append_assoc (frame_of step) [] more) }

  bytes_after : (rest : List ℕ) (step : Step) (more : List ℕ) → rest ≡ frame_of step ++ more → AreBytes rest → AreBytes more
  bytes_after rest step more parts all =
      All-same (λ b. b < 256) more (drop (length (frame_of step)) rest) (sym (ap (drop (length (frame_of step))) parts ∙ drop-append_seam (frame_of step) more)) (All-drop (λ b. b < 256) (length (frame_of step)) rest all)

  -- ---- all bytes spell some steps

  abbrev Spelled : ℕ → List ℕ → Bool → Type 0
  Spelled n bytes ended = (steps : List Step) × (rest : List ℕ) × (fault : Option FrameFault) × SpellsFrom n bytes ended steps rest fault

  nothing : (n : ℕ) (bytes : List ℕ) (ended : Bool) (fault : Option FrameFault) → n ≤ 65536 → IsPast n bytes ended fault → Spelled n bytes ended
  nothing n bytes ended fault le h =
      let k : n ≡ n + length {A = Step} [] = omega arith in (
        [],
        bytes,
        fault,
        record {
          frames = record { framed = tt; parts = refl };
          few = omega (arith, le);
          followed = subst (λ (j : ℕ). IsPast j bytes ended fault) k h;
        },
      )

  one_more : (n : ℕ) (bytes more : List ℕ) (ended : Bool) (step : Step) → IsCut bytes step more → Spelled (n + 1) more ended → Spelled n bytes ended
  one_more n bytes more ended step c (steps, rest, fault, sp) =
      let k : (n + 1) + length steps ≡ n + length (step ∷ steps) = omega arith in (
        step ∷ steps,
        rest,
        fault,
        record {
          frames = record {
            framed = (c.within, sp.frames.framed);
            parts = c.parts ∙ ap (λ (z : List ℕ). frame_of step ++ z) sp.frames.parts ∙ sym (append_assoc (frame_of step) (frames_of steps) rest);
          };
          few = omega (arith, sp.few);
          followed = subst (λ (j : ℕ). IsPast j rest ended fault) k sp.followed;
        },
      )

  never : false ≡ true → ⊥
  never e = (cc)

  spell_open : (n : ℕ) (bytes : List ℕ) (ended : Bool) → n < 65536 → 0 < length bytes → AreBytes bytes → first_frame_of bytes ≡ Open → Spelled n bytes ended
  spell_open n bytes true lt some all e = nothing n bytes true (Some BadFrame) (omega (arith, lt)) (lt, open_none bytes e, inl (refl, some))
  spell_open n bytes false lt some all e = nothing n bytes false None (omega (arith, lt)) ((opens bytes).0 all e, λ h. absurd (never h), λ ge. absurd (omega (arith, lt, ge)))

  spell_call : (n : ℕ) (bytes : List ℕ) (ended : Bool) (size : ℕ) (o : Option Step) → n < 65536 → AreBytes bytes → first_frame_of bytes ≡ Whole size → step_of (take size bytes) ≡ o
      → (AreBytes (drop size bytes) → Spelled (n + 1) (drop size bytes) ended) → Spelled n bytes ended
  spell_call n bytes ended size None lt all e s next = nothing n bytes ended (Some BadFrame) (omega (arith, lt)) (lt, call_none bytes size e s, inr (λ o. not_both (first_frame_of bytes) size ((opens bytes).1 o) e))
  spell_call n bytes ended size (Some step) lt all e s next = one_more n bytes (drop size bytes) ended step (cut_of bytes size step all s) (next (All-drop (λ b. b < 256) size bytes all))

  spell_front : (n : ℕ) (bytes : List ℕ) (ended : Bool) (f : FirstFrame) → n < 65536 → 0 < length bytes → AreBytes bytes → first_frame_of bytes ≡ f
      → ((size : ℕ) → 4 ≤ size → AreBytes (drop size bytes) → Spelled (n + 1) (drop size bytes) ended) → Spelled n bytes ended
  spell_front n bytes ended Open lt some all e next = spell_open n bytes ended lt some all e
  spell_front n bytes ended OutOfRange lt some all e next =
      nothing n bytes ended (Some BadFrame) (omega (arith, lt)) (lt, out_none bytes e, inr (λ o. not_out (first_frame_of bytes) ((opens bytes).1 o) e))
  spell_front n bytes ended (Whole size) lt some all e next = spell_call n bytes ended size (step_of (take size bytes)) lt all e refl (next size (whole_of settles bytes size e).some)

  spell : (most n : ℕ) (bytes : List ℕ) (ended : Bool) → length bytes ≤ most → n ≤ 65536 → AreBytes bytes → Spelled n bytes ended
  spell most n [] ended le few all = nothing n [] ended None few ((opens []).0 all refl, λ h. refl, λ h. refl)
  spell zero n (b ∷ bs) ended le few all = absurd (omega arith)
  spell (suc most) n (b ∷ bs) ended le few all = elim (cases_lt n 65536) [
    | inl lt ↦ spell_front n (b ∷ bs) ended (first_frame_of (b ∷ bs)) lt (omega arith) all refl
        (λ size some bytes. spell most (n + 1) (drop size (b ∷ bs)) ended (omega (arith, length-drop size (b ∷ bs), le, some)) (omega (arith, lt)) bytes)
    | inr ge ↦ nothing n (b ∷ bs) ended (Some TooManyFrames) few (ge, omega arith)
  ]

  pub bytes_spell : BytesSpell
  bytes_spell = λ n bytes ended few all. spell (length bytes) n bytes ended (omega arith) few all

  -- ---- the result of a run over them

  module _ {State : Type 0} (answers : CallStep State) where
    none_run : (n : ℕ) (s : State) (bytes : List ℕ) (ended : Bool) → looked n bytes ended ≡ [] → run_of looked (step_at answers) n s bytes ended ≡ come_to [] s n None
    unfolding run_of run_items
    none_run n s bytes ended e = ap (run_items (step_at answers) n s) e

    step-ok : (n : ℕ) (s : State) (frame : List ℕ) (step : Step) → n < 65536 → step_of frame ≡ Some step → step_at answers n s frame ≡ Ok (answers n s step)
    unfolding step_at
    step-ok n s frame step lt e = rw (lt-leb 65536 n lt) (ap (called answers n s) e)

    bad_run : (n : ℕ) (s : State) (rest : List ℕ) (ended : Bool) (size : ℕ) → n < 65536 → first_frame_of rest ≡ Whole size → step_of (take size rest) ≡ None
        → run_of looked (step_at answers) n s rest ended ≡ come_to [] s n (Some BadFrame)
    bad_run n s rest ended size lt e none =
        whole_run settles answers n s rest (take size rest) (drop size rest) ended (looked-whole settles n rest size ended lt e)
        ∙ ap (λ (r : Result (State × List ℕ) FrameFault). after n s r (λ d. run_of looked (step_at answers) (n + 1) d (drop size rest) ended)) (step-bad settles answers n s (take size rest) lt none)

    bad_call : (n : ℕ) (s : State) (rest : List ℕ) (ended : Bool) (size : ℕ) (o : Option Step) → n < 65536 → AreBytes rest → HasNoFrame rest → first_frame_of rest ≡ Whole size → step_of (take size rest) ≡ o
        → run_of looked (step_at answers) n s rest ended ≡ come_to [] s n (Some BadFrame)
    bad_call n s rest ended size None lt all none e o = bad_run n s rest ended size lt e o
    bad_call n s rest ended size (Some step) lt all none e o =
        let c = cut_of rest size step all o in
        absurd (none step (drop size rest) c.within (one_framed rest step (drop size rest) c))

    bad_open : (n : ℕ) (s : State) (rest : List ℕ) (ended : Bool) → n < 65536 → AreBytes rest → first_frame_of rest ≡ Open → ((ended ≡ true) × (0 < length rest)) ⊎ (IsOpen rest → ⊥)
        → run_of looked (step_at answers) n s rest ended ≡ come_to [] s n (Some BadFrame)
    bad_open n s rest ended lt all e (inl h) =
        let seen : looked n rest ended ≡ rest ∷ [] = ap (looked n rest) h.0 ∙ looked-open n rest true lt e h.1 in
        refused_run settles answers n s rest rest ended BadFrame seen (step-bad settles answers n s rest lt (ap (λ (f : FirstFrame). step_by f rest) e))
    bad_open n s rest ended lt all e (inr not_open) = absurd (not_open ((opens rest).0 all e))

    bad_front : (n : ℕ) (s : State) (rest : List ℕ) (ended : Bool) (f : FirstFrame) → n < 65536 → AreBytes rest → HasNoFrame rest → first_frame_of rest ≡ f → ((ended ≡ true) × (0 < length rest)) ⊎ (IsOpen rest → ⊥)
        → run_of looked (step_at answers) n s rest ended ≡ come_to [] s n (Some BadFrame)
    bad_front n s rest ended Open lt all none e how = bad_open n s rest ended lt all e how
    bad_front n s rest ended OutOfRange lt all none e how =
        refused_run settles answers n s rest rest ended BadFrame (looked-out n rest ended lt e) (step-bad settles answers n s rest lt (ap (λ (f : FirstFrame). step_by f rest) e))
    bad_front n s rest ended (Whole size) lt all none e how = bad_call n s rest ended size (step_of (take size rest)) lt all none e refl

    open_run : (n : ℕ) (s : State) (rest : List ℕ) (ended : Bool) → IsPast n rest ended None → run_of looked (step_at answers) n s rest ended ≡ come_to [] s n None
    open_run n s [] ended h = none_run n s [] ended (looked-none n ended)
    open_run n s (b ∷ bs) true h =
        let no : ◌≡◌ {A = List ℕ} (b ∷ bs) [] = h.1 refl in
        absurd cc
    open_run n s (b ∷ bs) false h = elim (cases_lt n 65536) [
      | inl lt ↦ none_run n s (b ∷ bs) false (looked-open n (b ∷ bs) false lt ((opens (b ∷ bs)).1 h.0) (omega arith))
      | inr ge ↦ many_none b bs (h.2 ge)
    ]
      where
        many_none : (b : ℕ) (bs : List ℕ) → b ∷ bs ≡ [] → run_of looked (step_at answers) n s (b ∷ bs) false ≡ come_to [] s n None
        many_none b bs e = absurd cc

    after_run : (n : ℕ) (s : State) (rest : List ℕ) (ended : Bool) (fault : Option FrameFault) → AreBytes rest → IsPast n rest ended fault
        → run_of looked (step_at answers) n s rest ended ≡ come_to [] s n fault
    after_run n s rest ended None all h = open_run n s rest ended h
    after_run n s rest ended (Some BadFrame) all h = bad_front n s rest ended (first_frame_of rest) h.0 all h.1 refl h.2
    after_run n s rest ended (Some TooManyFrames) all h = refused_run settles answers n s rest rest ended TooManyFrames (looked-many n rest ended h.0 h.1) (step-many settles answers n s rest h.0)

    last_run : (n k : ℕ) (s : State) (rest : List ℕ) (ended : Bool) (fault : Option FrameFault) → k ≡ n → AreBytes rest → IsPast k rest ended fault
        → run_of looked (step_at answers) n s rest ended ≡ come_to [] s k fault
    last_run n k s rest ended fault e all h =
        after_run n s rest ended fault all (subst (λ (j : ℕ). IsPast j rest ended fault) e h) ∙ ap (λ (j : ℕ). come_to [] s j fault) (sym e)

    run_steps : (steps : List Step) (n : ℕ) (s : State) (bytes : List ℕ) (ended : Bool) (rest : List ℕ) (fault : Option FrameFault) → AreBytes bytes → SpellsFrom n bytes ended steps rest fault
        → run_of looked (step_at answers) n s bytes ended ≡ come_to (answers_to answers n s steps) (state_past answers n s steps) (n + length steps) fault
    run_steps [] n s bytes ended rest fault all sp =
        ap (λ (z : List ℕ). run_of looked (step_at answers) n s z ended) sp.frames.parts
        ∙ last_run n (n + length {A = Step} []) s rest ended fault (omega arith) (All-same (λ b. b < 256) rest bytes (sym sp.frames.parts) all) sp.followed
    run_steps (step ∷ steps) n s bytes ended rest fault all sp =
        let more = frames_of steps ++ rest in
        let parts : bytes ≡ frame_of step ++ more = sp.frames.parts ∙ append_assoc (frame_of step) (frames_of steps) rest in
        let has : has_frame step ≡ true = sp.frames.framed.0 in
        let lt : n < 65536 = omega (arith, sp.few) in
        let seen : looked n bytes ended ≡ frame_of step ∷ looked (n + 1) more ended = ap (λ (z : List ℕ). looked n z ended) parts ∙ first settles reads n step more ended lt has in
        let ok : step_at answers n s (frame_of step) ≡ Ok (answers n s step) = step-ok n s (frame_of step) step lt ((reads (frame_of step) step).0 (record { within = has; bytes_are = refl })) in
        let k : n + length (step ∷ steps) ≡ (n + 1) + length steps = omega arith in
        let next = run_steps steps (n + 1) (answers n s step).0 more ended rest fault (bytes_after bytes step more parts all)
        (record { frames = record { framed = sp.frames.framed.1; parts = refl }; few = omega (arith, sp.few); followed = subst (λ (j : ℕ). IsPast j rest ended fault) k sp.followed }) in
        whole_run settles answers n s bytes (frame_of step) more ended seen
        ∙ ap (λ (r : Result (State × List ℕ) FrameFault). after n s r (λ d. run_of looked (step_at answers) (n + 1) d more ended)) ok
        ∙ ap (with_text (answers n s step).1) next
        ∙ ap (λ (j : ℕ). come_to (answers_to answers n s (step ∷ steps)) (state_past answers n s (step ∷ steps)) j fault) (sym k)

    pub run_is_of_steps : RunIsOfSteps answers
    run_is_of_steps = λ n s bytes ended steps rest fault all sp. run_steps steps n s bytes ended rest fault all sp

    -- ---- what was served

    -- one that wasn't refused is read as a step
    record IsAccepted (n : ℕ) (s : State) (item : List ℕ) (x : State × List ℕ) : Type 0 where
      few : n < 65536
      step : Step
      read : step_of item ≡ Some step
      does : x ≡ answers n s step

    accepted_call : (n : ℕ) (s : State) (item : List ℕ) (x : State × List ℕ) (o : Option Step) → n < 65536 → step_of item ≡ o → called answers n s o ≡ Ok x → IsAccepted n s item x
    accepted_call n s item x None lt e ok = absurd cc
    accepted_call n s item x (Some step) lt e ok = record { few = lt; step = step; read = e; does = cc }

    accepted : (n : ℕ) (s : State) (item : List ℕ) (x : State × List ℕ) → step_at answers n s item ≡ Ok x → IsAccepted n s item x
    unfolding step_at
    accepted n s item x ok = elim (cases_lt n 65536) [
      | inl lt ↦ accepted_call n s item x (step_of item) lt refl (rw (lt-leb 65536 n lt) at ok)
      | inr ge ↦ refused_ok (rw (le-leb 65536 n ge) at ok)
    ]
      where
        refused_ok : Err TooManyFrames ≡ Ok x → IsAccepted n s item x
        refused_ok e = absurd cc

    -- it is at the beginning
    record IsFirstItem (n : ℕ) (bytes item : List ℕ) (ended : Bool) (step : Step) (others : List (List ℕ)) : Type 0 where
      item_is : item ≡ frame_of step
      more : List ℕ
      cut : IsCut bytes step more
      seen : looked (n + 1) more ended ≡ others

    head_is : (xs ys : List (List ℕ)) (x y : List ℕ) → x ∷ xs ≡ y ∷ ys → (x ≡ y) × (xs ≡ ys)
    head_is xs ys x y e = ((cc), (cc))

    not_empty : (ys : List (List ℕ)) (y : List ℕ) → [] ≡ y ∷ ys → ⊥
    not_empty ys y e = (cc)

    whole_item : (n : ℕ) (bytes item : List ℕ) (ended : Bool) (step : Step) (others : List (List ℕ)) → step_of bytes ≡ None → (bytes ≡ item) → step_of item ≡ Some step → IsFirstItem n bytes item ended step others
    whole_item n bytes item ended step others none e read = absurd (not_none (step_of bytes) step (ap step_of e ∙ read) none)

    open_item : (n : ℕ) (bytes item : List ℕ) (ended : Bool) (step : Step) (others : List (List ℕ)) → step_of bytes ≡ None → cond ended (bytes ∷ []) [] ≡ item ∷ others → step_of item ≡ Some step → IsFirstItem n bytes item ended step others
    open_item n bytes item true step others none e read = whole_item n bytes item true step others none (head_is [] others bytes item e).0 read
    open_item n bytes item false step others none e read = absurd (not_empty others item e)

    item_front : (n : ℕ) (bytes item : List ℕ) (ended : Bool) (step : Step) (others : List (List ℕ)) (f : FirstFrame) → n < 65536 → 0 < length bytes → AreBytes bytes → first_frame_of bytes ≡ f
        → looked n bytes ended ≡ item ∷ others → step_of item ≡ Some step → IsFirstItem n bytes item ended step others
    item_front n bytes item ended step others Open lt some all e seen read =
        open_item n bytes item ended step others (ap (λ (f : FirstFrame). step_by f bytes) e) (sym (looked-open n bytes ended lt e some) ∙ seen) read
    item_front n bytes item ended step others OutOfRange lt some all e seen read =
        whole_item n bytes item ended step others (ap (λ (f : FirstFrame). step_by f bytes) e) (head_is [] others bytes item (sym (looked-out n bytes ended lt e) ∙ seen)).0 read
    item_front n bytes item ended step others (Whole size) lt some all e seen read =
        let h = head_is _ others _ item (sym (looked-whole settles n bytes size ended lt e) ∙ seen) in
        record { item_is = sym h.0 ∙ (frame_in bytes size step all (ap step_of h.0 ∙ read)).bytes_are; more = drop size bytes; cut = cut_of bytes size step all (ap step_of h.0 ∙ read); seen = h.1 }

    item_in : (n : ℕ) (bytes item : List ℕ) (ended : Bool) (step : Step) (others : List (List ℕ)) → n < 65536 → AreBytes bytes → looked n bytes ended ≡ item ∷ others → step_of item ≡ Some step → IsFirstItem n bytes item ended step others
    item_in n [] item ended step others lt all seen read = absurd (not_empty others item (sym (looked-none n ended) ∙ seen))
    item_in n (b ∷ bs) item ended step others lt all seen read = item_front n (b ∷ bs) item ended step others (first_frame_of (b ∷ bs)) lt (omega arith) all refl seen read

    rebuilt : (r : Run State FrameFault) (t : State) (m : ℕ) → r.last ≡ t → r.items ≡ m → r.refused ≡ None → r ≡ come_to r.text t m None
    rebuilt r t m a b c =
        ap (λ (x : State). come_to r.text x r.items r.refused) a ∙ ap (λ (x : ℕ). come_to r.text t x r.refused) b ∙ ap (λ (x : Option FrameFault). come_to r.text t m x) c

    -- the first one, and those after it
    front_more : (n m : ℕ) (s t : State) (bytes item : List ℕ) (ended : Bool) (step : Step) (more : List ℕ) (items followed : List (List ℕ)) (text others : List ℕ) → item ≡ frame_of step → IsCut bytes step more → text ≡ (answers n s step).1 ++ others
        → PrefixIsOfSteps answers (n + 1) m (answers n s step).0 t more ended items followed others → PrefixIsOfSteps answers n m s t bytes ended (item ∷ items) followed text
    front_more n m s t bytes item ended step more items followed text others i c e f = record {
      steps = step ∷ f.steps;
      rest = f.rest;
      frames = record {
        framed = (c.within, f.frames.framed);
        parts = c.parts ∙ ap (λ (z : List ℕ). frame_of step ++ z) f.frames.parts ∙ sym (append_assoc (frame_of step) (frames_of f.steps) f.rest);
      };
      served_are = ap (λ (z : List ℕ). z ∷ items) i ∙ ap (λ (z : List (List ℕ)). frame_of step ∷ z) f.served_are;
      number = omega (arith, f.number);
      few = f.few;
      others = f.others;
      text_is = e ∙ ap (λ (z : List ℕ). (answers n s step).1 ++ z) f.text_is;
      state_is = f.state_is;
    }

    abbrev Served : List (List ℕ) → Type 0
    Served items = (n m : ℕ) (s t : State) (bytes : List ℕ) (ended : Bool) (followed : List (List ℕ)) (text : List ℕ) → n ≤ 65536 → AreBytes bytes → looked n bytes ended ≡ items ++ followed
        → run_items (step_at answers) n s items ≡ come_to text t m None → PrefixIsOfSteps answers n m s t bytes ended items followed text

    served_by : (items : List (List ℕ)) → Served items → (n m : ℕ) (s t : State) (bytes item : List ℕ) (ended : Bool) (followed : List (List ℕ)) (text : List ℕ) (r : Result (State × List ℕ) FrameFault)
        → AreBytes bytes → looked n bytes ended ≡ item ∷ (items ++ followed) → step_at answers n s item ≡ r → after n s r (λ d. run_items (step_at answers) (n + 1) d items) ≡ come_to text t m None
        → PrefixIsOfSteps answers n m s t bytes ended (item ∷ items) followed text
    served_by items next n m s t bytes item ended followed text (Err kind) all seen is e =
        let no : ◌≡◌ {A = Option FrameFault} (Some kind) None = ap (λ (z : Run State FrameFault). z.refused) e in
        absurd cc
    served_by items next n m s t bytes item ended followed text (Ok x) all seen is e =
        let a = accepted n s item x is in
        let f = item_in n bytes item ended a.step (items ++ followed) a.few all seen a.read in
        let r : Run State FrameFault = run_items (step_at answers) (n + 1) x.0 items in
        let run : r ≡ come_to r.text t m None =
        rebuilt r t m (ap (λ (z : Run State FrameFault). z.last) e) (ap (λ (z : Run State FrameFault). z.items) e) (ap (λ (z : Run State FrameFault). z.refused) e) in
        let is_text : text ≡ x.1 ++ r.text = sym (ap (λ (z : Run State FrameFault). z.text) e) in
        let does : x ≡ answers n s a.step = a.does in
        front_more n m s t bytes item ended a.step f.more items followed text r.text f.item_is f.cut (is_text ∙ ap (λ (z : State × List ℕ). z.1 ++ r.text) does)
        (next (n + 1) m (answers n s a.step).0 t f.more ended followed r.text (omega (arith, a.few)) (bytes_after bytes a.step f.more f.cut.parts all) f.seen
        (ap (λ (z : State × List ℕ). run_items (step_at answers) (n + 1) z.0 items) (sym does) ∙ run))

    served_all : (items : List (List ℕ)) → Served items
    unfolding run_items
    served_all [] = λ n m s t bytes ended followed text few all seen e.
        let number : n ≡ m = ap (λ (z : Run State FrameFault). z.items) e in
        record {
          steps = [];
          rest = bytes;
          frames = record { framed = tt; parts = refl };
          served_are = refl;
          number = omega (arith, number);
          few = omega (arith, number, few);
          others = ap (λ (j : ℕ). looked j bytes ended) (sym number) ∙ seen;
          text_is = sym (ap (λ (z : Run State FrameFault). z.text) e);
          state_is = sym (ap (λ (z : Run State FrameFault). z.last) e);
        }
    served_all (item ∷ items) = λ n m s t bytes ended followed text few all seen e.
        served_by items (served_all items) n m s t bytes item ended followed text (step_at answers n s item) all seen refl e

    pub served_are_steps : ServedAreSteps answers
    served_are_steps = λ n m s t bytes ended served followed text few all seen e. served_all served n m s t bytes ended followed text few all seen e
