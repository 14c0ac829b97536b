-- The result of several items, one after the other.
use Rattle.std.proofs.Common.{◌≡◌, ℕ, ◌+◌, List, [], ◌∷◌, ◌++◌, Option, Some, None, Result, Ok, Err, refl, sym, ap, ◌∙◌, append-nil, append_assoc}
use Rattle.record_reader.specs.Run.{ItemStep, Run, come_to, with_text, after, run_items}

module _ {State Kind : Type 0} (step : ItemStep State Kind) where
  -- one item that is applied
  pub items-one : (n : ℕ) (c d : State) (item text : List ℕ) → step n c item ≡ Ok (d, text) → run_items step n c (item ∷ []) ≡ come_to text d (n + 1) None
  unfolding run_items
  items-one n c d item text s = rw s (rw (append-nil text) refl)

  -- ---- items that are applied, and others after them

  pub comes : (r : Run State Kind) (d : State) (m : ℕ) (o : Option Kind) → r.last ≡ d → r.items ≡ m → r.refused ≡ o → r ≡ come_to r.text d m o
  comes r d m o last items refused = rw (← last, ← items, ← refused) refl

  run_with : Run State Kind → List ℕ → Run State Kind
  run_with r t = record { text = t; last = r.last; items = r.items; refused = r.refused }

  pub text_twice : (a b : List ℕ) (r : Run State Kind) → with_text a (with_text b r) ≡ with_text (a ++ b) r
  unfolding run_with
  text_twice a b r = ap (λ (t : List ℕ). run_with r t) (sym (append_assoc a b r.text))

  append-step : (n : ℕ) (c : State) (r : Result (State × List ℕ) Kind) (f g : State → Run State Kind) (text : List ℕ) (d : State) (m : ℕ) (other : Run State Kind)
      → ((x : State) (u : List ℕ) → f x ≡ come_to u d m None → g x ≡ with_text u other)
      → after n c r f ≡ come_to text d m None → after n c r g ≡ with_text text other
  append-step n c (Ok x) f g text d m other h e =
      let p = comes (f x.0) d m None (ap (λ (z : Run State Kind). z.last) e) (ap (λ (z : Run State Kind). z.items) e) (ap (λ (z : Run State Kind). z.refused) e) in
      let q : x.1 ++ (f x.0).text ≡ text = ap (λ (z : Run State Kind). z.text) e in
      ap (with_text x.1) (h x.0 (f x.0).text p) ∙ text_twice x.1 (f x.0).text other ∙ ap (λ (t : List ℕ). with_text t other) q
  append-step n c (Err k) f g text d m other h e =
      let none : ◌≡◌ {A = Option Kind} (Some k) None = ap (λ (z : Run State Kind). z.refused) e in
      absurd cc

  pub items-append : (n : ℕ) (c : State) (a b : List (List ℕ)) (text : List ℕ) (d : State) (m : ℕ) → run_items step n c a ≡ come_to text d m None
      → run_items step n c (a ++ b) ≡ with_text text (run_items step m d b)
  unfolding run_items
  items-append n c [] b text d m e =
      let t : [] ≡ text = ap (λ (z : Run State Kind). z.text) e in
      let l : c ≡ d = ap (λ (z : Run State Kind). z.last) e in
      let k : n ≡ m = ap (λ (z : Run State Kind). z.items) e in
      rw (← t, ← l, ← k) refl
  items-append n c (l ∷ a) b text d m e =
      append-step n c (step n c l) (λ t. run_items step (n + 1) t a) (λ t. run_items step (n + 1) t (a ++ b)) text d m (run_items step m d b)
      (λ x u h. items-append (n + 1) x a b u d m h) e
