-- Whether a path begins with another and a slash.
use Rattle.std.proofs.Common.{◌≡◌, ◌≢◌, ◌∙◌, sym, ap, ℕ, Bool, true, false, List, ◌++◌, length, drop, refl, append_assoc}
use Rattle.std.specs.Prelude.{codes, nat_eq}
use Rattle.std.specs.List.{starts_with}
use Rattle.std.proofs.Math.Seq.{drop-append_seam}
use Rattle.std.proofs.lemmas.Bool.{false_from_ne_true}
use Rattle.std.proofs.lemmas.Bool.Decides.{Decides-eqb}
use Rattle.std.proofs.lemmas.Slice.Eq.{starts_is}
use Rattle.pam_outside.specs.Files.{is_below}

same_test : (a b : Bool) → (a ≡ true → b ≡ true) → (b ≡ true → a ≡ true) → a ≡ b
same_test true b to from = sym (to refl)
same_test false true to from = from refl
same_test false false to from = refl

abbrev slash : List ℕ
slash = codes "/"

module _ (folder path : List ℕ) where
  abbrev beyond : List ℕ
  beyond = drop (length (folder ++ slash)) path

  parts : is_below folder path ≡ true → path ≡ folder ++ (slash ++ beyond)
  parts below = (starts_is Decides-eqb path (folder ++ slash) (is_below folder path) refl).0 below ∙ append_assoc folder slash beyond

  pub below_rest : (rest : List ℕ) → path ≡ folder ++ rest → starts_with nat_eq rest slash ≡ is_below folder path
  below_rest rest front =
      let here = starts_is Decides-eqb rest slash (starts_with nat_eq rest slash) refl in
      let whole = starts_is Decides-eqb path (folder ++ slash) (is_below folder path) refl in
      same_test _ _
      (λ slashed. whole.1 (drop (length slash) rest) (front ∙ ap (λ (l : List ℕ). folder ++ l) (here.0 slashed) ∙ sym (append_assoc folder slash (drop (length slash) rest))))
      (λ below. here.1 beyond (sym (drop-append_seam folder rest) ∙ ap (drop (length folder)) (sym front ∙ parts below) ∙ drop-append_seam folder (slash ++ beyond)))

  pub below_none : ((rest : List ℕ) → path ≢ folder ++ rest) → is_below folder path ≡ false
  below_none none = false_from_ne_true _ (λ below. none (slash ++ beyond) (parts below))
