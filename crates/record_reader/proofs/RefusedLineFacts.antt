-- What is refused among the bytes taken is what is refused in the whole input.
use Rattle.std.proofs.Common.{◌≡◌, ℕ, ◌+◌, ◌≤◌, Bool, true, false, ◌||◌, leb, ltb, List, [], ◌∷◌, ◌++◌, length, Option, Some, None, Result, Ok, Err, refl, ap, ◌∙◌, length-append, arith}
use Rattle.std.proofs.lemmas.Bool.{lt-ltb, ltb-true}
use Rattle.pam_base.specs.declared.fault.ScriptKind.{ScriptKind}
use Rattle.pam_base.specs.declared.fault.ScriptKind.TheVariants.{LineTooLong, TooManyLines}
use Rattle.pam_base.specs.Bytes.{has_byte}
use Rattle.pam_base.specs.Lines.{cut}
use Rattle.record_reader.specs.Looked.{last_looked, looked}
use Rattle.record_reader.specs.Run.{with_text, after, run_items, run_of as run_of_items}
use Rattle.record_reader.specs.LineRun.{LineStep, Run, step_at, run_of}
use Rattle.record_reader.proofs.SeenLineFacts.{before, cut-before, looked-append, rest-has_no_newline}

or_third : (a b c d : Bool) → (b || c) ≡ true → (c ≡ true → d ≡ true) → (a || b || d) ≡ true
or_third true b c d e h = refl
or_third false true c d e h = refl
or_third false false c d e h = h e

-- the first line that is looked at, once enough of it has been read
record IsFirst (n : ℕ) (r more : List ℕ) (ended : Bool) : Type 0 where
  line : List ℕ
  others : List (List ℕ)
  longer : length r ≤ length line
  seen : looked n (r ++ more) ended ≡ line ∷ others

first_by : (n x : ℕ) (xs more : List ℕ) (ended : Bool) (ls : List (List ℕ)) (rest : List ℕ) → (leb 65536 n || ltb 513 (length (x ∷ xs))) ≡ true
    → cut ((x ∷ xs) ++ more) ≡ before (x ∷ xs) ls rest → IsFirst n (x ∷ xs) more ended
unfolding looked last_looked before
first_by n x xs more ended (l ∷ ls) rest over e = record {
  line = (x ∷ xs) ++ l;
  others = ls ++ last_looked (n + length (((x ∷ xs) ++ l) ∷ ls)) rest ended;
  longer = omega (arith, length-append (x ∷ xs) l);
  seen = rw e refl;
}
first_by n x xs more ended [] rest over e =
    let k : n + 0 ≡ n = omega arith in
    let all : (ended || leb 65536 n || ltb 513 (length ((x ∷ xs) ++ rest))) ≡ true =
    or_third ended (leb 65536 n) (ltb 513 (length (x ∷ xs))) _ over (λ h. lt-ltb 513 (length ((x ∷ xs) ++ rest)) (omega (arith, ltb-true 513 (length (x ∷ xs)) h, length-append (x ∷ xs) rest))) in
    record { line = (x ∷ xs) ++ rest; others = []; longer = omega (arith, length-append (x ∷ xs) rest); seen = rw (e, k, all) refl }

module _ {State : Type 0} (step : LineStep State) where
  -- a line that is too long, or one too many, is so whatever follows
  over_by : (n : ℕ) (d : State) (r f : List ℕ) (t : Bool) → leb 65536 n ≡ t → (t || ltb 513 (length r)) ≡ true → length r ≤ length f
      → (j : ScriptKind) × (step_at step n d r ≡ Err j) × (step_at step n d f ≡ Err j)
  unfolding step_at
  over_by n d r f true e h le = (TooManyLines, rw e refl, rw e refl)
  over_by n d r f false e h le =
      let long = ltb-true 513 (length r) h in
      let second : ltb 513 (length f) ≡ true = lt-ltb 513 (length f) (omega (arith, long, le)) in
      (LineTooLong, rw (e, h) refl, rw (e, second) refl)

  -- what is refused stays refused
  after-refused : (n : ℕ) (c : State) (r : Result (State × List ℕ) ScriptKind) (f g : State → Run State) (k : ScriptKind)
      → ((x : State) → (f x).refused ≡ Some k → g x ≡ f x) → (after n c r f).refused ≡ Some k → after n c r g ≡ after n c r f
  after-refused n c (Ok x) f g k h e = ap (with_text x.1) (h x.0 e)
  after-refused n c (Err j) f g k h e = refl

  core : (ls t u : List (List ℕ)) (n : ℕ) (c : State) (k : ScriptKind)
      → ((d : State) → (run_items (step_at step) (n + length ls) d t).refused ≡ Some k → run_items (step_at step) (n + length ls) d u ≡ run_items (step_at step) (n + length ls) d t)
      → (run_items (step_at step) n c (ls ++ t)).refused ≡ Some k → run_items (step_at step) n c (ls ++ u) ≡ run_items (step_at step) n c (ls ++ t)
  unfolding run_items
  core [] t u n c k h e =
      let z : n + 0 ≡ n = omega arith in
      (rw z at h) c e
  core (l ∷ ls) t u n c k h e =
      let z : n + length (l ∷ ls) ≡ (n + 1) + length ls = omega arith in
      after-refused n c (step_at step n c l) (λ d. run_items (step_at step) (n + 1) d (ls ++ t)) (λ d. run_items (step_at step) (n + 1) d (ls ++ u)) k
      (λ x r. core ls t u (n + 1) x k (rw z at h) r) e

  last_by : (d : State) (n x : ℕ) (xs more : List ℕ) (ended : Bool) (k : ScriptKind) (t : Bool) → (leb 65536 n || ltb 513 (length (x ∷ xs))) ≡ t
      → has_byte 10 (x ∷ xs) ≡ false
      → (run_items (step_at step) n d (last_looked n (x ∷ xs) false)).refused ≡ Some k → run_items (step_at step) n d (looked n ((x ∷ xs) ++ more) ended) ≡ run_items (step_at step) n d (last_looked n (x ∷ xs) false)
  unfolding run_items last_looked
  last_by d n x xs more ended k true h e q =
      let first = first_by n x xs more ended (cut more).lines (cut more).rest h (cut-before (x ∷ xs) more e) in
      let over = over_by n d (x ∷ xs) first.line (leb 65536 n) refl h first.longer in
      rw (first.seen, h, over.1, over.2) refl
  last_by d n x xs more ended k false h e q =
      let none : ◌≡◌ {A = Option ScriptKind} None (Some k) = rw h at q in
      absurd cc

  last-stays : (d : State) (n : ℕ) (r more : List ℕ) (ended : Bool) (k : ScriptKind) → has_byte 10 r ≡ false
      → (run_items (step_at step) n d (last_looked n r false)).refused ≡ Some k → run_items (step_at step) n d (looked n (r ++ more) ended) ≡ run_items (step_at step) n d (last_looked n r false)
  unfolding run_items last_looked
  last-stays d n [] more ended k e q = absurd cc
  last-stays d n (x ∷ xs) more ended k e q = last_by d n x xs more ended k _ refl e q

  -- what is refused among some bytes is refused, whatever follows them, and with the same text before it
  pub run-stays : (n : ℕ) (c : State) (taken more : List ℕ) (ended : Bool) (k : ScriptKind) → (run_of step n c taken false).refused ≡ Some k
      → run_of step n c (taken ++ more) ended ≡ run_of step n c taken false
  unfolding run_of_items looked
  run-stays n c taken more ended k e =
      let m = n + length (cut taken).lines in
      ap (run_items (step_at step) n c) (looked-append n taken more ended)
      ∙ core (cut taken).lines (last_looked m (cut taken).rest false) (looked m ((cut taken).rest ++ more) ended) n c k
      (λ d q. last-stays d m (cut taken).rest more ended k (rest-has_no_newline taken) q) e
