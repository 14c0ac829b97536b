-- What a file has after a list of calls.
use Rattle.std.proofs.Common.{◌≡◌, ◌⊎◌, inl, inr, ℕ, Bool, true, false, cond, List, [], ◌∷◌, ◌++◌, filter, Option, Some, refl, sym, ap, ◌∙◌, append_assoc}
use Rattle.std.specs.List.{AllByRecursion}
use Rattle.pam_outside.specs.Files.{file_at}
use Rattle.mod_tally.specs.declared.tally.Failure.{Failure}
use Rattle.mod_tally.specs.Tally.{IsFailure, counting, counts, failures_of, latest, tally_text}
use Rattle.mod_tally.specs.Recorded.{Deed, left, recorded, cleared, Does, Follow, IsAmong, IsWith, Served, deeds_of, is_cleared, is_written, left_by, played, recorded_by, failures_on_file, failures_by}
use Rattle.mod_tally.proofs.CountedFailureFacts.{counting-counting}

-- ---- operations on the failures that count

abbrev pub after_all : List Deed → List Failure → List Failure
after_all [] fs = fs
after_all (d ∷ ds) fs = after_all ds (left_by d fs)

-- the failures that count are those that were recorded
abbrev pub Alike : ℕ → List Failure → List Failure → Type 0
Alike i fs rs = (more : List Failure) → counting i (fs ++ more) ≡ counting i (rs ++ more)

module _ (i : ℕ) where
  recorded_alike : (fs rs : List Failure) (f : Failure) → Alike i fs rs → Alike i (counting i (fs ++ f ∷ [])) (rs ++ f ∷ [])
  recorded_alike fs rs f same = λ more.
      counting-counting i (fs ++ f ∷ []) more
      ∙ ap (counting i) (append_assoc fs (f ∷ []) more)
      ∙ same (f ∷ more)
      ∙ ap (counting i) (sym (append_assoc rs (f ∷ []) more))

  -- once it was written
  pub written : (ds : List Deed) (fs rs : List Failure) → AllByRecursion (IsWith i) ds → Alike i fs rs → fs ≡ counting i rs → after_all ds fs ≡ counting i (recorded_by ds rs)
  written [] fs rs all same is = is
  written (left ∷ ds) fs rs all same is = written ds fs rs all.1 same is
  written (recorded j f ∷ ds) fs rs all same is =
      rw all.0.0 (written ds (counting i (fs ++ f ∷ [])) (rs ++ f ∷ []) all.1 (recorded_alike fs rs f same) (same (f ∷ [])))
  written (cleared ∷ ds) fs rs all same is = written ds [] [] all.1 (λ more. refl) refl

  pub stands : (ds : List Deed) (fs : List Failure) → AllByRecursion (IsWith i) ds → after_all ds fs ≡ failures_by i ds fs
  stands [] fs all = refl
  stands (left ∷ ds) fs all = stands ds fs all.1
  stands (recorded j f ∷ ds) fs all =
      rw all.0.0 (written ds (counting i (fs ++ f ∷ [])) (fs ++ f ∷ []) all.1 (recorded_alike fs fs f (λ more. refl)) refl)
  stands (cleared ∷ ds) fs all = written ds [] [] all.1 (λ more. refl) refl

-- ---- failures that can be written

fit_by : (b : Bool) (f : Failure) (fs : List Failure) → IsFailure f → AllByRecursion IsFailure fs → AllByRecursion IsFailure (cond b (f ∷ fs) fs)
fit_by true f fs is all = (is, all)
fit_by false f fs is all = all

fit_filter : (p : Failure → Bool) (fs : List Failure) → AllByRecursion IsFailure fs → AllByRecursion IsFailure (filter p fs)
fit_filter p [] all = tt
fit_filter p (f ∷ fs) all = fit_by (p f) f (filter p fs) all.0 (fit_filter p fs all.1)

fit_append : (fs : List Failure) (f : Failure) → AllByRecursion IsFailure fs → IsFailure f → AllByRecursion IsFailure (fs ++ f ∷ [])
fit_append [] f all is = (is, tt)
fit_append (g ∷ fs) f all is = (all.0, fit_append fs f all.1 is)

-- what is written is read
abbrev pub IsRead : Type 0
IsRead = (fs : List Failure) → AllByRecursion IsFailure fs → failures_of (tally_text fs) ≡ Some fs

some_same : {A : Type 0} (x y : A) → ◌≡◌ {A = Option A} (Some x) (Some y) → x ≡ y
some_same x y e = cc

module _ (path : List ℕ) (i : ℕ) (read : IsRead) where
  -- one call, and those after it
  by_deed : (s : Served) (before : Option (List ℕ)) (fs : List Failure) (d : Deed) → file_at path s.sight.files ≡ before → Does path s.call s.sight (played s) d → IsWith i d → AllByRecursion IsFailure fs → failures_on_file before ≡ Some fs
      → AllByRecursion IsFailure (left_by d fs) × (failures_on_file (file_at path (played s).files) ≡ Some (left_by d fs))
  by_deed s before fs left at does one fit stood = (fit, ap failures_on_file (does ∙ at) ∙ stood)
  by_deed s before fs (recorded j f) at does one fit stood =
      let same : does.on_file ≡ fs = some_same _ _ (sym does.stood ∙ ap failures_on_file at ∙ stood) in
      let fits : AllByRecursion IsFailure (counting j (fs ++ f ∷ [])) = fit_filter (counts j (latest (fs ++ f ∷ []))) (fs ++ f ∷ []) (fit_append fs f fit one.1) in
      (fits, ap failures_on_file (does.stands ∙ ap (λ (x : List Failure). Some (tally_text (counting j (x ++ f ∷ [])))) same) ∙ read (counting j (fs ++ f ∷ [])) fits)
  by_deed s before fs cleared at does one fit stood = (tt, ap failures_on_file does.stands ∙ read [] tt)

  followed : (ss : List Served) (before after : Option (List ℕ)) (fs : List Failure) → Follow path before ss after → AllByRecursion (IsWith i) (deeds_of ss) → AllByRecursion IsFailure fs → failures_on_file before ≡ Some fs
      → failures_on_file after ≡ Some (after_all (deeds_of ss) fs)
  followed [] before after fs follow all fit stood = ap failures_on_file follow ∙ stood
  followed (s ∷ ss) before after fs follow all fit stood =
      let done = by_deed s before fs s.deed follow.0 follow.1 all.0 fit stood in
      followed ss (file_at path (played s).files) after (left_by s.deed fs) follow.2 all.1 done.0 done.1

  pub calls_count : (ss : List Served) (before after : Option (List ℕ)) (fs : List Failure) → Follow path before ss after → AllByRecursion (IsWith i) (deeds_of ss) → AllByRecursion IsFailure fs → failures_on_file before ≡ Some fs
      → failures_on_file after ≡ Some (failures_by i (deeds_of ss) fs)
  calls_count ss before after fs follow all fit stood =
      followed ss before after fs follow all fit stood ∙ ap (λ (x : List Failure). Some x) (stands i (deeds_of ss) fs all)

-- ---- a failure that still counts

among_front : (f g : Failure) (fs : List Failure) → IsAmong f fs → IsAmong f (fs ++ g ∷ [])
among_front f g [] a = absurd a
among_front f g (h ∷ fs) (inl e) = inl e
among_front f g (h ∷ fs) (inr a) = inr (among_front f g fs a)

among_recorded : (ds : List Deed) (f : Failure) (fs : List Failure) → is_cleared ds ≡ false → IsAmong f fs → IsAmong f (recorded_by ds fs)
among_recorded [] f fs e a = a
among_recorded (left ∷ ds) f fs e a = among_recorded ds f fs e a
among_recorded (recorded i g ∷ ds) f fs e a = among_recorded ds f (fs ++ g ∷ []) e (among_front f g fs a)
among_recorded (cleared ∷ ds) f fs e a = absurd cc

among_by : (p : Failure → Bool) (f g : Failure) (fs : List Failure) (b : Bool) → p g ≡ b → p f ≡ true → (g ≡ f) ⊎ IsAmong f fs → IsAmong f (cond b (g ∷ fs) fs)
among_by p f g fs true e c a = a
among_by p f g fs false e c (inl same) = absurd (let differ : ◌≡◌ {A = Bool} false true = sym e ∙ ap p same ∙ c in cc)
among_by p f g fs false e c (inr a) = a

among_filter : (p : Failure → Bool) (f : Failure) (fs : List Failure) → p f ≡ true → IsAmong f fs → IsAmong f (filter p fs)
among_filter p f [] c a = absurd a
among_filter p f (g ∷ fs) c (inl same) = among_by p f g (filter p fs) (p g) refl c (inl same)
among_filter p f (g ∷ fs) c (inr a) = among_by p f g (filter p fs) (p g) refl c (inr (among_filter p f fs c a))

among_cond : (b : Bool) (f : Failure) (xs ys : List Failure) → IsAmong f xs → IsAmong f ys → IsAmong f (cond b xs ys)
among_cond true f xs ys a b = a
among_cond false f xs ys a b = b

pub none_lost : (i : ℕ) (ds : List Deed) (f : Failure) (fs : List Failure) → IsAmong f fs → is_cleared ds ≡ false → counts i (latest (recorded_by ds fs)) f ≡ true → IsAmong f (failures_by i ds fs)
none_lost i ds f fs a e c = among_cond (is_written ds) f (counting i (recorded_by ds fs)) fs (among_filter (counts i (latest (recorded_by ds fs))) f (recorded_by ds fs) c (among_recorded ds f fs e a)) a
