-- A file that is replaced, and the others.
use Rattle.std.proofs.Common.{◌≡◌, ℕ, Bool, true, false, cond, List, [], ◌∷◌, Some, refl, ap, ◌∙◌}
use Rattle.std.specs.Str.{bytes_eq}
use Rattle.std.proofs.lemmas.Slice.Eq.{bytes_eq-Decides}
use Rattle.pam_outside.specs.Files.{File, file_at, file_put}

same : (path : List ℕ) → bytes_eq path path ≡ true
same path = (bytes_eq-Decides path path).1 refl

module _ (path bytes : List ℕ) where
  abbrev pub it : File
  it = record { path = path; bytes = bytes }

  put_by : (f : File) (fs : List File) (b : Bool) → bytes_eq f.path path ≡ b → file_at path (file_put path bytes fs) ≡ Some bytes → file_at path (cond b (it ∷ fs) (f ∷ file_put path bytes fs)) ≡ Some bytes
  put_by f fs true e below = rw (same path) refl
  put_by f fs false e below = rw e below

  pub put_there : (files : List File) → file_at path (file_put path bytes files) ≡ Some bytes
  put_there [] = rw (same path) refl
  put_there (f ∷ fs) = put_by f fs (bytes_eq f.path path) refl (put_there fs)

  module _ (other : List ℕ) (differs : bytes_eq path other ≡ false) where
    past_by : (f : File) (fs : List File) (b : Bool) → bytes_eq f.path path ≡ b → file_at other (file_put path bytes fs) ≡ file_at other fs → file_at other (cond b (it ∷ fs) (f ∷ file_put path bytes fs)) ≡ file_at other (f ∷ fs)
    past_by f fs true e below =
        let is : f.path ≡ path = (bytes_eq-Decides f.path path).0 e in
        let passed : bytes_eq f.path other ≡ false = ap (λ (p : List ℕ). bytes_eq p other) is ∙ differs in
        rw (differs, passed) refl
    past_by f fs false e below = rw below refl

    pub put_past : (files : List File) → file_at other (file_put path bytes files) ≡ file_at other files
    put_past [] = rw differs refl
    put_past (f ∷ fs) = past_by f fs (bytes_eq f.path path) refl (put_past fs)
