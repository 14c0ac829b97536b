-- Generated numbers, lines and choices, one after another.
use Rattle.std.proofs.Common.{◌≡◌, ℕ, zero, suc, ◌+◌, ◌-◌, ◌*◌, ◌/◌, ◌≤◌, Bool, true, false, cond, List, [], ◌∷◌, ◌++◌, map, refl, sym, ap, ◌∙◌, add-one, arith}
use Rattle.std.proofs.lemmas.List.{append-nil}
use Rattle.std.proofs.lemmas.List.Concat.{flat_map-append}
use Rattle.std.proofs.lemmas.List.Elements.{filter-append}
use Rattle.std.proofs.lemmas.List.FromFn.{map-range_with_len_more}
use Rattle.std.specs.List.{filter, flat_map, range_with_len}
use Rattle.random_config.specs.Generator.{random_number, next_state, state_after}
use Rattle.random_config.specs.Line.{answer_words, default_words, random_line, random_lines, line_text, picked, success_words}
use Rattle.random_config.specs.Files.{is_odd, substack_line}

after_one : (seed n : ℕ) → state_after seed (n + 1) ≡ next_state (state_after seed n)
after_one seed n = rw add-one refl

module _ (seed n s : ℕ) (at : s ≡ state_after seed n) where
  pub next_is : next_state s ≡ state_after seed (n + 1)
  next_is = rw at (sym (after_one seed n))

  pub random_number_is : next_state s / 65536 ≡ random_number seed n
  random_number_is = ap (λ (x : ℕ). x / 65536) next_is

-- one more number
range_suc : (a n : ℕ) → range_with_len a (suc n) ≡ range_with_len a n ++ (a + n) ∷ []
range_suc a zero = ap (λ (x : ℕ). x ∷ []) (omega arith)
range_suc a (suc n) = ap (λ (t : List ℕ). a ∷ t) (range_suc (a + 1) n ∙ ap (λ (x : ℕ). range_with_len (a + 1) n ++ x ∷ []) (omega arith))

range_more : (a n : ℕ) → range_with_len a (n + 1) ≡ range_with_len a n ++ (a + n) ∷ []
range_more a n = rw add-one (range_suc a n)

pub texts_more : (f : ℕ → List ℕ) (xs : List ℕ) (x : ℕ) → flat_map f (xs ++ x ∷ []) ≡ flat_map f xs ++ f x
texts_more f xs x = flat_map-append f xs (x ∷ []) ∙ ap (λ (t : List ℕ). flat_map f xs ++ t) (append-nil (f x))

pub lines_more : (seed a n : ℕ) → random_lines seed a (n + 1) ≡ random_lines seed a n ++ random_line seed (a + n)
lines_more seed a n = ap (flat_map (random_line seed)) (range_more a n) ∙ texts_more (random_line seed) (range_with_len a n) (a + n)

picked_more : (f : ℕ → List ℕ) (x : ℕ) (b : Bool) → flat_map f (cond b (x ∷ []) []) ≡ cond b (f x) []
picked_more f x true = append-nil (f x)
picked_more f x false = refl

pub substacks_more : (n : ℕ) → flat_map substack_line (filter is_odd (range_with_len 1 (n + 1)))
    ≡ flat_map substack_line (filter is_odd (range_with_len 1 n)) ++ cond (is_odd (1 + n)) (substack_line (1 + n)) []
substacks_more n = ap (λ (t : List ℕ). flat_map substack_line (filter is_odd t)) (range_more 1 n)
    ∙ ap (flat_map substack_line) (filter-append is_odd (range_with_len 1 n) ((1 + n) ∷ []))
    ∙ flat_map-append substack_line (filter is_odd (range_with_len 1 n)) (filter is_odd ((1 + n) ∷ []))
    ∙ ap (λ (t : List ℕ). flat_map substack_line (filter is_odd (range_with_len 1 n)) ++ t) (picked_more substack_line (1 + n) (is_odd (1 + n)))

-- a text that has the substacks of the numbers before one, and then that of this one
pub next_substack : (old new : List ℕ) (k : ℕ) → 1 ≤ k → old ≡ flat_map substack_line (filter is_odd (range_with_len 1 (k - 1)))
    → new ≡ old ++ cond (is_odd k) (substack_line k) [] → new ≡ flat_map substack_line (filter is_odd (range_with_len 1 (k + 1 - 1)))
next_substack old new k le so is =
    let e : k + 1 - 1 ≡ k - 1 + 1 = omega arith in
    let f : 1 + (k - 1) ≡ k = omega arith in
    rw e (is ∙ ap (λ (t : List ℕ). t ++ cond (is_odd k) (substack_line k) []) so ∙ sym (rw f at (substacks_more (k - 1))))

-- three random numbers, and the line that they pick
pub line_generated : (seed before s : ℕ) → s ≡ state_after seed (3 * before) → (t u v a b c : ℕ) (x y z old new : List ℕ)
    → t ≡ next_state s → u ≡ next_state t → v ≡ next_state u
    → a ≡ next_state s / 65536 → b ≡ next_state t / 65536 → c ≡ next_state u / 65536
    → x ≡ picked success_words a → y ≡ picked default_words b → z ≡ picked answer_words c
    → new ≡ old ++ line_text x y z
    → (new ≡ old ++ random_line seed before) × (v ≡ state_after seed (3 * (before + 1)))
line_generated seed before s at t u v a b c x y z old new ts us vs p q r xs ys zs is =
    let n = 3 * before in
    let at_t : t ≡ state_after seed (n + 1) = ts ∙ next_is seed n s at in
    let at_u : u ≡ state_after seed (n + 1 + 1) = us ∙ next_is seed (n + 1) t at_t in
    let at_v : v ≡ state_after seed (n + 1 + 1 + 1) = vs ∙ next_is seed (n + 1 + 1) u at_u in
    let x_is : x ≡ picked success_words (random_number seed n) = xs ∙ ap (picked success_words) (p ∙ random_number_is seed n s at) in
    let y_is : y ≡ picked default_words (random_number seed (n + 1)) = ys ∙ ap (picked default_words) (q ∙ random_number_is seed (n + 1) t at_t) in
    let z_is : z ≡ picked answer_words (random_number seed (n + 2)) =
    zs ∙ ap (picked answer_words) (r ∙ random_number_is seed (n + 1 + 1) u at_u ∙ ap (random_number seed) (omega arith)) in
    (is ∙ rw (x_is, y_is, z_is) refl, at_v ∙ ap (state_after seed) (omega arith))

-- one more file
pub next_file : {A : Type 0} (f : ℕ → A) (old new : List A) (file : A) (k : ℕ) → 1 ≤ k → old ≡ map f (range_with_len 1 (k - 1))
    → new ≡ old ++ file ∷ [] → file ≡ f k → new ≡ map f (range_with_len 1 (k + 1 - 1))
next_file f old new file k le so is here =
    let e : k + 1 - 1 ≡ k - 1 + 1 = omega arith in
    rw e (is ∙ rw (so, here) (sym (map-range_with_len_more f 1 (k - 1) k (omega arith))))
