-- Frames are cut and refused as the stream requires.
use Rattle.std.proofs.Common.{◌≡◌, ℕ, zero, suc, ◌+◌, ◌≤◌, ◌<◌, inl, inr, Bool, true, false, cond, List, [], ◌∷◌, ◌++◌, length, take, drop, Option, Some, None, Result, Ok, Err, nat_le, refl, sym, ap, subst, ◌∙◌, arith, length-drop}
use Rattle.std.proofs.lemmas.Bool.{le-leb, lt-leb, cases_lt}
use Rattle.std.proofs.lemmas.List.{take-append-le, drop-append-le, nil_from_length}
use Rattle.pam_wire.specs.declared.prefix.FirstFrame.{FirstFrame}
use Rattle.pam_wire.specs.declared.prefix.FirstFrame.TheVariants.{Open, OutOfRange, Whole}
use Rattle.pam_wire.specs.Laws.{Settles, FirstFrameSettles}
use Rattle.pam_wire.specs.Read.{first_frame_of, step_by, step_of}
use Rattle.record_reader.specs.Cutting.{Cuts, Keeps}
use Rattle.record_reader.specs.FirstItem.{IsItem}
use Rattle.record_reader.specs.Run.{Run, come_to, with_text, after, run_items, run_of}
use Rattle.frame_stream.specs.declared.fault.FrameFault.{FrameFault}
use Rattle.frame_stream.specs.declared.fault.FrameFault.TheVariants.{BadFrame, TooManyFrames}
use Rattle.frame_stream.specs.Looked.{looked_by, looked_most, looked, refuses}
use Rattle.frame_stream.specs.Run.{CallStep, called, step_at}

-- ---- which frames are processed

pub looked-many : (n : ℕ) (bytes : List ℕ) (ended : Bool) → 65536 ≤ n → 0 < length bytes → looked n bytes ended ≡ bytes ∷ []
unfolding looked looked_most
looked-many n [] ended ge some = absurd (omega (arith, some))
looked-many n (b ∷ bs) ended ge some = rw (le-leb 65536 n ge) refl

pub looked-out : (n : ℕ) (bytes : List ℕ) (ended : Bool) → n < 65536 → first_frame_of bytes ≡ OutOfRange → looked n bytes ended ≡ bytes ∷ []
unfolding looked looked_most
looked-out n [] ended lt e = absurd cc
looked-out n (b ∷ bs) ended lt e = rw (lt-leb 65536 n lt) (ap (λ (f : FirstFrame). looked_by f (b ∷ bs) ended (λ size. looked_most (length bs) (n + 1) (drop size (b ∷ bs)) ended)) e)

pub looked-open : (n : ℕ) (bytes : List ℕ) (ended : Bool) → n < 65536 → first_frame_of bytes ≡ Open → 0 < length bytes → looked n bytes ended ≡ cond ended (bytes ∷ []) []
unfolding looked looked_most
looked-open n [] ended lt e some = absurd (omega (arith, some))
looked-open n (b ∷ bs) ended lt e some = rw (lt-leb 65536 n lt) (ap (λ (f : FirstFrame). looked_by f (b ∷ bs) ended (λ size. looked_most (length bs) (n + 1) (drop size (b ∷ bs)) ended)) e)

pub looked-none : (n : ℕ) (ended : Bool) → looked n [] ended ≡ []
unfolding looked looked_most
looked-none n ended = refl

module _ (settles : FirstFrameSettles) where
  pub record IsWhole (bytes : List ℕ) (size : ℕ) : Type 0 where
    pub some : 4 ≤ size
    pub within : size ≤ length bytes
    pub stays : (more : List ℕ) → first_frame_of (bytes ++ more) ≡ Whole size

  pub whole_of : (bytes : List ℕ) (size : ℕ) → first_frame_of bytes ≡ Whole size → IsWhole bytes size
  whole_of bytes size e =
      let s : (more : List ℕ) → Settles (Whole size) bytes more = λ more. subst (λ f. Settles f bytes more) e (settles bytes more) in
      record { some = (s []).0; within = (s []).1; stays = λ more. (s more).2 }

  out_of : (bytes more : List ℕ) → first_frame_of bytes ≡ OutOfRange → (0 < length bytes) × (first_frame_of (bytes ++ more) ≡ OutOfRange)
  out_of bytes more e = subst (λ f. Settles f bytes more) e (settles bytes more)

  pub open_of : (bytes : List ℕ) → first_frame_of bytes ≡ Open → length bytes ≤ 581
  open_of bytes e = subst (λ f. Settles f bytes []) e (settles bytes [])

  -- no more frames than bytes have to be considered
  same_by : (f g n : ℕ) (bytes : List ℕ) (ended : Bool) (front : FirstFrame) → first_frame_of bytes ≡ front → ((size : ℕ) → 4 ≤ size → looked_most f (n + 1) (drop size bytes) ended ≡ looked_most g (n + 1) (drop size bytes) ended)
      → looked_by front bytes ended (λ size. looked_most f (n + 1) (drop size bytes) ended) ≡ looked_by front bytes ended (λ size. looked_most g (n + 1) (drop size bytes) ended)
  same_by f g n bytes ended Open e same = refl
  same_by f g n bytes ended OutOfRange e same = refl
  same_by f g n bytes ended (Whole size) e same = ap (λ (z : List (List ℕ)). take size bytes ∷ z) (same size (whole_of bytes size e).some)

  same_most : (f g n : ℕ) (bytes : List ℕ) (ended : Bool) → length bytes ≤ f → length bytes ≤ g → looked_most f n bytes ended ≡ looked_most g n bytes ended
  unfolding looked_most
  same_most f g n [] ended le ge = refl
  same_most zero g n (b ∷ bs) ended le ge = absurd (omega arith)
  same_most (suc f) zero n (b ∷ bs) ended le ge = absurd (omega arith)
  same_most (suc f) (suc g) n (b ∷ bs) ended le ge =
      ap (λ (z : List (List ℕ)). cond (nat_le 65536 n) ((b ∷ bs) ∷ []) z)
      (same_by f g n (b ∷ bs) ended (first_frame_of (b ∷ bs)) refl
      (λ size some. same_most f g (n + 1) (drop size (b ∷ bs)) ended (omega (arith, length-drop size (b ∷ bs), le, some)) (omega (arith, length-drop size (b ∷ bs), ge, some))))

  pub looked-whole : (n : ℕ) (bytes : List ℕ) (size : ℕ) (ended : Bool) → n < 65536 → first_frame_of bytes ≡ Whole size → looked n bytes ended ≡ take size bytes ∷ looked (n + 1) (drop size bytes) ended
  unfolding looked looked_most
  looked-whole n [] size ended lt e = absurd cc
  looked-whole n (b ∷ bs) size ended lt e =
      rw (lt-leb 65536 n lt)
      (ap (λ (f : FirstFrame). looked_by f (b ∷ bs) ended (λ size. looked_most (length bs) (n + 1) (drop size (b ∷ bs)) ended)) e
      ∙ ap (λ (z : List (List ℕ)). take size (b ∷ bs) ∷ z)
      (same_most (length bs) (length (drop size (b ∷ bs))) (n + 1) (drop size (b ∷ bs)) ended (omega (arith, length-drop size (b ∷ bs), (whole_of (b ∷ bs) size e).some)) (omega arith)))

  -- a frame at the beginning, whatever follows
  pub frame_front : (n : ℕ) (held : List ℕ) (size : ℕ) → n < 65536 → first_frame_of held ≡ Whole size → IsItem looked n size size held
  frame_front n held size lt e =
      let w = whole_of held size e in
      record {
        within = omega arith;
        whole = w.within;
        seen = λ more ended.
            looked-whole n (held ++ more) size ended lt (w.stays more)
            ∙ ap (λ (z : List ℕ). z ∷ looked (n + 1) (drop size (held ++ more)) ended) (take-append-le size held more w.within)
            ∙ ap (λ (z : List ℕ). take size held ∷ looked (n + 1) z ended) (drop-append-le size held more w.within);
      }

  -- ---- laws

  no_item : (item : List ℕ) (items : List (List ℕ)) (l : List (List ℕ)) → l ≡ item ∷ items → l ≡ [] → ⊥
  no_item item items l e f =
      let no : ◌≡◌ {A = List (List ℕ)} (item ∷ items) [] = sym e ∙ f in
      absurd cc

  rest_front : (n : ℕ) (held : List ℕ) (f : FirstFrame) → n < 65536 → first_frame_of held ≡ f → looked n held false ≡ [] → 0 < length held → looked n held true ≡ held ∷ []
  rest_front n held Open lt e none some = looked-open n held true lt e some
  rest_front n held OutOfRange lt e none some = absurd (no_item _ _ _ (looked-out n held false lt e) none)
  rest_front n held (Whole size) lt e none some = absurd (no_item _ _ _ (looked-whole n held size false lt e) none)

  pub frames_cut : Cuts looked
  frames_cut = record {
    none = looked-none;
    rest = λ n held none some. elim (cases_lt n 65536) [
      | inl lt ↦ rest_front n held (first_frame_of held) lt refl none some
      | inr ge ↦ looked-many n held true ge some
    ];
  }

  module _ {State : Type 0} (answers : CallStep State) where
    pub step-many : (n : ℕ) (s : State) (frame : List ℕ) → 65536 ≤ n → step_at answers n s frame ≡ Err TooManyFrames
    unfolding step_at
    step-many n s frame ge = rw (le-leb 65536 n ge) refl

    pub step-bad : (n : ℕ) (s : State) (frame : List ℕ) → n < 65536 → step_of frame ≡ None → step_at answers n s frame ≡ Err BadFrame
    unfolding step_at
    step-bad n s frame lt none = rw (lt-leb 65536 n lt) (ap (called answers n s) none)

    is_err : (r : Result (State × List ℕ) FrameFault) (k : FrameFault) (x : State × List ℕ) → r ≡ Err k → r ≡ Ok x → ⊥
    is_err r k x e f =
        let no : ◌≡◌ {A = Result (State × List ℕ) FrameFault} (Err k) (Ok x) = sym e ∙ f in
        absurd cc

    refused : (n : ℕ) (frame : List ℕ) → refuses n frame → (s : State) (x : State × List ℕ) → step_at answers n s frame ≡ Ok x → ⊥
    refused n frame (inl many) s x e = is_err _ _ x (step-many n s frame many) e
    refused n frame (inr none) s x e = elim (cases_lt n 65536) [
      | inl lt ↦ is_err _ _ x (step-bad n s frame lt none) e
      | inr ge ↦ is_err _ _ x (step-many n s frame ge) e
    ]

    -- the first frame is refused
    pub refused_run : (n : ℕ) (c : State) (bytes item : List ℕ) (ended : Bool) (k : FrameFault) → looked n bytes ended ≡ item ∷ [] → step_at answers n c item ≡ Err k
        → run_of looked (step_at answers) n c bytes ended ≡ come_to [] c n (Some k)
    unfolding run_of run_items
    refused_run n c bytes item ended k e s = ap (run_items (step_at answers) n c) e ∙ ap (λ r. after n c r (λ d. come_to [] d (n + 1) None)) s

    -- the first frame is complete
    pub whole_run : (n : ℕ) (c : State) (bytes item followed : List ℕ) (ended : Bool) → looked n bytes ended ≡ item ∷ looked (n + 1) followed ended
        → run_of looked (step_at answers) n c bytes ended ≡ after n c (step_at answers n c item) (λ d. run_of looked (step_at answers) (n + 1) d followed ended)
    unfolding run_of run_items
    whole_run n c bytes item followed ended e = ap (run_items (step_at answers) n c) e

    none_run : (n : ℕ) (c : State) (bytes : List ℕ) (kind : FrameFault) → looked n bytes false ≡ [] → (run_of looked (step_at answers) n c bytes false).refused ≡ Some kind → ⊥
    unfolding run_of run_items
    none_run n c bytes kind e r =
        let no : ◌≡◌ {A = Option FrameFault} None (Some kind) = sym (ap (λ l. (run_items (step_at answers) n c l).refused) e) ∙ r in
        absurd cc

    after_refused : (n : ℕ) (c : State) (r : Result (State × List ℕ) FrameFault) (f g : State → Run State FrameFault) (k : FrameFault)
        → ((x : State) → (f x).refused ≡ Some k → g x ≡ f x) → (after n c r f).refused ≡ Some k → after n c r g ≡ after n c r f
    after_refused n c (Ok x) f g k h e = ap (with_text x.1) (h x.0 e)
    after_refused n c (Err j) f g k h e = refl

    -- depending on what the bytes begin with, if fewer frames than the maximum come before it
    stay_front : (n : ℕ) (c : State) (taken more : List ℕ) (ended : Bool) (kind : FrameFault) (f : FirstFrame) → n < 65536 → 0 < length taken → first_frame_of taken ≡ f
        → (run_of looked (step_at answers) n c taken false).refused ≡ Some kind
        → ((size : ℕ) (d : State) → 4 ≤ size → (run_of looked (step_at answers) (n + 1) d (drop size taken) false).refused ≡ Some kind
        → run_of looked (step_at answers) (n + 1) d (drop size taken ++ more) ended ≡ run_of looked (step_at answers) (n + 1) d (drop size taken) false)
        → run_of looked (step_at answers) n c (taken ++ more) ended ≡ run_of looked (step_at answers) n c taken false
    stay_front n c taken more ended kind Open lt some e r followed = absurd (none_run n c taken kind (looked-open n taken false lt e some) r)
    stay_front n c taken more ended kind OutOfRange lt some e r followed =
        let o = (out_of taken more e).1 in
        refused_run n c (taken ++ more) _ ended BadFrame (looked-out n (taken ++ more) ended lt o) (step-bad n c (taken ++ more) lt (ap (λ (f : FirstFrame). step_by f (taken ++ more)) o))
        ∙ sym (refused_run n c taken _ false BadFrame (looked-out n taken false lt e) (step-bad n c taken lt (ap (λ (f : FirstFrame). step_by f taken) e)))
    stay_front n c taken more ended kind (Whole size) lt some e r followed =
        let i = frame_front n taken size lt e in
        let first = whole_run n c taken (take size taken) (drop size taken) false (looked-whole n taken size false lt e) in
        whole_run n c (taken ++ more) (take size taken) (drop size taken ++ more) ended (i.seen more ended)
        ∙ after_refused n c (step_at answers n c (take size taken)) _ _ kind (λ x q. followed size x (whole_of taken size e).some q) (sym (ap (λ (z : Run State FrameFault). z.refused) first) ∙ r)
        ∙ sym first

    stay : (most n : ℕ) (c : State) (taken more : List ℕ) (ended : Bool) (kind : FrameFault) → length taken ≤ most → (run_of looked (step_at answers) n c taken false).refused ≡ Some kind
        → run_of looked (step_at answers) n c (taken ++ more) ended ≡ run_of looked (step_at answers) n c taken false
    stay most n c [] more ended kind le r = absurd (none_run n c [] kind (looked-none n false) r)
    stay zero n c (b ∷ bs) more ended kind le r = absurd (omega (arith, le))
    stay (suc most) n c (b ∷ bs) more ended kind le r = elim (cases_lt n 65536) [
      | inl lt ↦ stay_front n c (b ∷ bs) more ended kind (first_frame_of (b ∷ bs)) lt (omega arith) refl r
          (λ size d some q. stay most (n + 1) d (drop size (b ∷ bs)) more ended kind (omega (arith, length-drop size (b ∷ bs), le, some)) q)
      | inr ge ↦ refused_run n c ((b ∷ bs) ++ more) _ ended TooManyFrames (looked-many n ((b ∷ bs) ++ more) ended ge (omega arith)) (step-many n c _ ge)
          ∙ sym (refused_run n c (b ∷ bs) _ false TooManyFrames (looked-many n (b ∷ bs) false ge (omega arith)) (step-many n c _ ge))
    ]

    pub frames_keep : Keeps looked refuses (step_at answers)
    frames_keep = record {
      refused = refused;
      stays = λ n c taken more ended kind r. stay (length taken) n c taken more ended kind (omega arith) r;
    }

  -- ---- what the bytes begin with

  pub empty_front : (n : ℕ) (held : List ℕ) → length held ≡ 0 → (looked n held false ≡ []) × (length held ≤ 581)
  empty_front n held e = (ap (λ (z : List ℕ). looked n z false) (nil_from_length held e) ∙ looked-none n false, omega (arith, e))

  pub many_front : (n : ℕ) (held : List ℕ) → 65536 ≤ n → 0 < length held → (0 < length held) × (looked n held false ≡ held ∷ []) × refuses n held
  many_front n held ge some = (some, looked-many n held false ge some, inl ge)

  pub open_front : (n : ℕ) (held : List ℕ) → n < 65536 → 0 < length held → first_frame_of held ≡ Open → (looked n held false ≡ []) × (length held ≤ 581)
  open_front n held lt some e = (looked-open n held false lt e some, open_of held e)

  pub out_front : (n : ℕ) (held : List ℕ) → n < 65536 → first_frame_of held ≡ OutOfRange → (0 < length held) × (looked n held false ≡ held ∷ []) × refuses n held
  out_front n held lt e = ((out_of held [] e).0, looked-out n held false lt e, inr (ap (λ (f : FirstFrame). step_by f held) e))
