-- Failures that count by a time that no recorded one is later than: they stay while others are recorded.
use Rattle.std.proofs.Common.{◌≡◌, ℕ, ◌+◌, ◌-◌, ◌<◌, ◌≤◌, max, Bool, true, false, true≢false, cond, ltb, List, [], ◌∷◌, ◌++◌, filter, count_by, refl}
use Rattle.std.proofs.Common.{sym, ap, ◌∙◌, arith}
use Rattle.std.proofs.lemmas.Bool.{ltb-true, ltb-false, lt-ltb}
use Rattle.std.proofs.lemmas.List.Sums.{sum_by-cons, sum_by_push}
use Rattle.mod_tally.specs.declared.tally.Failure.{Failure}
use Rattle.mod_tally.specs.Tally.{counting, counts, latest}

-- ---- the latest failure

pub latest_on : (fs : List Failure) (f : Failure) → latest (fs ++ f ∷ []) ≡ max (latest fs) f.moment
latest_on [] f = omega arith
latest_on (g ∷ fs) f = omega (arith, latest_on fs f)

not_later_by : (x : Failure) (kept all : List Failure) (b : Bool) → latest kept ≤ latest all → latest (cond b (x ∷ kept) kept) ≤ latest (x ∷ all)
not_later_by x kept all true le = omega (arith, le)
not_later_by x kept all false le = omega (arith, le)

not_later : (p : Failure → Bool) (xs : List Failure) → latest (filter p xs) ≤ latest xs
not_later p [] = omega arith
not_later p (x ∷ xs) = not_later_by x (filter p xs) xs (p x) (not_later p xs)

-- a time at which, or after which, one failed stays so, if what failed then counts
time_kept_by : (i g t : ℕ) (x : Failure) (kept xs : List Failure) (b : Bool) → counts i g x ≡ b → g - t < i → t ≤ latest (x ∷ xs)
    → (t ≤ latest xs → t ≤ latest kept) → t ≤ latest (cond b (x ∷ kept) kept)
time_kept_by i g t x kept xs true is near le more = by (ltb (latest xs) t) refl
  where
    by : (b : Bool) → ltb (latest xs) t ≡ b → t ≤ max x.moment (latest kept)
    by true lt = omega (arith, ltb-true (latest xs) t lt, le)
    by false ge = omega (arith, more (ltb-false (latest xs) t ge))
time_kept_by i g t x kept xs false is near le more =
    let far : i ≤ g - x.moment = ltb-false (g - x.moment) i is in
    more (omega (arith, far, near, le))

time_kept : (i g t : ℕ) (xs : List Failure) → g - t < i → t ≤ latest xs → t ≤ latest (filter (counts i g) xs)
time_kept i g t [] near le = le
time_kept i g t (x ∷ xs) near le = time_kept_by i g t x (filter (counts i g) xs) xs (counts i g x) refl near le (λ le. time_kept i g t xs near le)

-- ---- how many count

count-cons : (p : Failure → Bool) (x : Failure) (xs : List Failure) → count_by p (x ∷ xs) ≡ cond (p x) 1 0 + count_by p xs
count-cons p x xs = sum_by-cons (λ y. cond (p y) 1 0) x xs

count-push : (p : Failure → Bool) (xs : List Failure) (x : Failure) → count_by p (xs ++ x ∷ []) ≡ count_by p xs + cond (p x) 1 0
count-push p xs x = sum_by_push (λ y. cond (p y) 1 0) xs x

-- what passes one test and so the other is still there after the other
kept_by : (p q : Failure → Bool) (x : Failure) (kept xs : List Failure) (b : Bool) → q x ≡ b → (p x ≡ true → q x ≡ true) → count_by p kept ≡ count_by p xs
    → count_by p (cond b (x ∷ kept) kept) ≡ count_by p (x ∷ xs)
kept_by p q x kept xs true is so e = count-cons p x kept ∙ ap (λ (n : ℕ). cond (p x) 1 0 + n) e ∙ sym (count-cons p x xs)
kept_by p q x kept xs false is so e = by (p x) refl ∙ sym (count-cons p x xs)
  where
    by : (b : Bool) → p x ≡ b → count_by p kept ≡ cond (p x) 1 0 + count_by p xs
    by true passes = absurd (true≢false (sym (so passes) ∙ is))
    by false fails = rw fails (omega (arith, e))

kept : (p q : Failure → Bool) (xs : List Failure) → ((x : Failure) → p x ≡ true → q x ≡ true) → count_by p (filter q xs) ≡ count_by p xs
kept p q [] so = refl
kept p q (x ∷ xs) so = kept_by p q x (filter q xs) xs (q x) refl (so x) (kept p q xs so)

fewer : (p q : Failure → Bool) (xs : List Failure) → ((x : Failure) → p x ≡ true → q x ≡ true) → count_by p xs ≤ count_by q xs
fewer p q [] so = omega arith
fewer p q (x ∷ xs) so = omega (arith, count-cons p x xs, count-cons q x xs, fewer p q xs so, by (p x) (q x) refl refl)
  where
    by : (a b : Bool) → p x ≡ a → q x ≡ b → cond (p x) 1 0 ≤ cond (q x) 1 0
    by true true f g = rw (f, g) (omega arith)
    by true false f g = absurd (true≢false (sym (so x f) ∙ g))
    by false true f g = rw (f, g) (omega arith)
    by false false f g = rw (f, g) (omega arith)

-- ---- what is kept, as time goes by

module _ (i last : ℕ) where
  abbrev pub recent_by : List Failure → ℕ
  recent_by fs = count_by (counts i last) fs

  -- an earlier greatest time counts more
  counts_earlier : (g : ℕ) → g ≤ last → (x : Failure) → counts i last x ≡ true → counts i g x ≡ true
  counts_earlier g le x is =
      let near : last - x.moment < i = ltb-true (last - x.moment) i is in
      lt-ltb (g - x.moment) i (omega (arith, near, le))

  -- after some calls at least n more failures count, none is later, and a time that counted and at which, or after which,
  -- one failed stays so
  pub record Grows (n : ℕ) (fs gs : List Failure) : Type 0 where
    pub count : recent_by fs + n ≤ recent_by gs
    pub late : latest gs ≤ last
    pub stays : (t : ℕ) → last - t < i → t ≤ latest fs → t ≤ latest gs

  pub unchanged : (fs : List Failure) → latest fs ≤ last → Grows 0 fs fs
  unchanged fs le = record { count = omega arith; late = le; stays = λ t near le. le }

  pub one_after_other : (m n : ℕ) (fs gs hs : List Failure) → Grows m fs gs → Grows n gs hs → Grows (m + n) fs hs
  one_after_other m n fs gs hs a b = record {
    count = omega (arith, a.count, b.count);
    late = b.late;
    stays = λ t near le. b.stays t near (a.stays t near le);
  }

  -- a failure was recorded
  module _ (fs : List Failure) (f : Failure) (late : latest fs ≤ last) (now : f.moment ≤ last) where
    abbrev after : List Failure
    after = counting i (fs ++ f ∷ [])

    none_later : latest (fs ++ f ∷ []) ≤ last
    none_later = omega (arith, latest_on fs f, late, now)

    all_kept : recent_by after ≡ recent_by fs + cond (counts i last f) 1 0
    all_kept = kept (counts i last) (counts i (latest (fs ++ f ∷ []))) (fs ++ f ∷ []) (counts_earlier (latest (fs ++ f ∷ [])) none_later)
        ∙ count-push (counts i last) fs f

    at_most_last : latest after ≤ last
    at_most_last = omega (arith, not_later (counts i (latest (fs ++ f ∷ []))) (fs ++ f ∷ []), none_later)

    near_enough : (t : ℕ) → last - t < i → latest (fs ++ f ∷ []) - t < i
    near_enough t near = omega (arith, near, none_later)

    time_stays : (t : ℕ) → last - t < i → t ≤ latest (fs ++ f ∷ []) → t ≤ latest after
    time_stays t near le = time_kept i (latest (fs ++ f ∷ [])) t (fs ++ f ∷ []) (near_enough t near) le

    pub any_recorded : Grows 0 fs after
    any_recorded = record {
      count = omega (arith, all_kept);
      late = at_most_last;
      stays = λ t near le. time_stays t near (omega (arith, latest_on fs f, le));
    }

    pub recent_recorded : last - f.moment < i → Grows 1 fs after
    recent_recorded near =
        let one : ◌≡◌ {A = ℕ} (cond (counts i last f) 1 0) 1 = rw (lt-ltb (last - f.moment) i near) refl in
        record {
          count = omega (arith, all_kept, one);
          late = at_most_last;
          stays = λ t close le. time_stays t close (omega (arith, latest_on fs f, le));
        }

    pub its_time : last - f.moment < i → f.moment ≤ latest after
    its_time near = time_stays f.moment near (omega (arith, latest_on fs f))

  -- at the end as many count by the latest failure
  pub count_by_latest : (fs : List Failure) → latest fs ≤ last → recent_by fs ≤ count_by (counts i (latest fs)) fs
  count_by_latest fs le = fewer (counts i last) (counts i (latest fs)) fs (counts_earlier (latest fs) le)
