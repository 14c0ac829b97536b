-- A file is replaced under its path, or added after the others; then it is found, and so are the
-- others.
use Rattle.std.proofs.Common.{◌≡◌, ◌≢◌, ◌∙◌, sym, ℕ, zero, suc, ◌<◌, Bool, true, false, cond, List, [], ◌∷◌, ◌++◌, length, get_or, set, Some, None, refl, ap, arith}
use Rattle.std.specs.List.{position, position_or_len}
use Rattle.std.specs.Str.{bytes_eq}
use Rattle.std.specs.Bool.{Decides}
use Rattle.std.proofs.lemmas.Bool.{ltb-false}
use Rattle.std.proofs.lemmas.List.Quantifiers.{position-Some}
use Rattle.std.proofs.lemmas.List.Sums.{fails_before_first}
use Rattle.std.proofs.lemmas.Slice.Eq.{bytes_eq-Decides}
use Rattle.pam_outside.specs.Files.{File, file_at, file_put}

module _ (path bytes : List ℕ) where
  abbrev is_it : File → Bool
  is_it f = bytes_eq f.path path

  abbrev it : File
  it = record { path = path; bytes = bytes }

  over : (files : List File) (n : ℕ) → n < length files → is_it (get_or files n it) ≡ true → ((k : ℕ) → k < n → is_it (get_or files k it) ≡ false)
      → file_put path bytes files ≡ set files n it
  over [] n lt here before = absurd (omega arith)
  over (f ∷ fs) zero lt here before = rw here refl
  over (f ∷ fs) (suc n) lt here before =
      let first : is_it f ≡ false = before 0 (omega arith) in
      rw first (ap (λ (x : List File). f ∷ x) (over fs n (omega arith) here (λ k le. before (suc k) (omega arith))))

  put_at_end : (files : List File) → ((k : ℕ) → k < length files → is_it (get_or files k it) ≡ false) → file_put path bytes files ≡ files ++ it ∷ []
  put_at_end [] none = refl
  put_at_end (f ∷ fs) none =
      let first : is_it f ≡ false = none 0 (omega arith) in
      rw first (ap (λ (x : List File). f ∷ x) (put_at_end fs (λ k lt. none (suc k) (omega arith))))

  not_some : (b : Bool) (i : ℕ) → cond b (Some i) None ≡ None → b ≡ false
  not_some true i e = absurd cc
  not_some false i e = refl

  pub is_within : (files : List File) (n : ℕ) → position is_it files ≡ Some n → n < length files
  is_within files n e = (position-Some is_it files n it e).0

  pub put_over : (files : List File) (n : ℕ) → position is_it files ≡ Some n → file_put path bytes files ≡ set files n it
  put_over files n e = let at = position-Some is_it files n it e in over files n at.0 at.1 at.2

  pub put_after : (files : List File) → position is_it files ≡ None → file_put path bytes files ≡ files ++ it ∷ []
  put_after files e =
      let past = ltb-false (position_or_len is_it files) (length files) (not_some _ _ e) in
      put_at_end files (λ k lt. fails_before_first is_it files k it (omega (arith, past)))

-- ---- what is found after a file was set

is_not : {P : Type 0} (b : Bool) → Decides b P → ¬ P → b ≡ false
is_not true d n = absurd (n (d.0 refl))
is_not false d n = refl

module _ (path bytes : List ℕ) where
  same : bytes_eq path path ≡ true
  same = (bytes_eq-Decides path path).1 refl

  pub put_found : (files : List File) → file_at path (file_put path bytes files) ≡ Some bytes
  put_found [] = rw same refl
  put_found (f ∷ fs) = by (bytes_eq f.path path) refl (put_found fs)
    where
      by : (b : Bool) → bytes_eq f.path path ≡ b → file_at path (file_put path bytes fs) ≡ Some bytes
          → file_at path (cond b (it path bytes ∷ fs) (f ∷ file_put path bytes fs)) ≡ Some bytes
      by true e below = rw same refl
      by false e below = rw e below

  module _ (other : List ℕ) (differs : other ≢ path) where
    not_it : bytes_eq path other ≡ false
    not_it = is_not (bytes_eq path other) (bytes_eq-Decides path other) (λ e. differs (sym e))

    pub put_others : (files : List File) → file_at other (file_put path bytes files) ≡ file_at other files
    put_others [] = rw not_it refl
    put_others (f ∷ fs) = by (bytes_eq f.path path) refl (put_others fs)
      where
        by : (b : Bool) → bytes_eq f.path path ≡ b → file_at other (file_put path bytes fs) ≡ file_at other fs
            → file_at other (cond b (it path bytes ∷ fs) (f ∷ file_put path bytes fs)) ≡ file_at other (f ∷ fs)
        by true e below =
            let is : f.path ≡ path = (bytes_eq-Decides f.path path).0 e in
            let passed : bytes_eq f.path other ≡ false = ap (λ (p : List ℕ). bytes_eq p other) is ∙ not_it in
            rw (not_it, passed) refl
        by false e below = rw below refl
