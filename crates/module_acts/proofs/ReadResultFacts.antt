-- What a read finds.
use Rattle.std.proofs.Common.{◌≡◌, ℕ, ◌<◌, ◌≤◌, Bool, true, false, List, Option, Some, None, length, refl, arith}
use Rattle.std.specs.Option.{IsSomeAnd}
use Rattle.std.proofs.lemmas.Bool.Decides.{nat_tests}
use Rattle.module_acts.specs.declared.content.Content.TheVariants.{Absent, Unreadable, Holds}
use Rattle.module_acts.specs.Content.{content_of, text_within}

within : (limit : ℕ) (text : List ℕ) → length text ≤ limit → Holds text ≡ text_within limit (Some text)
within limit text le = grind (arith, nat_tests)

past : (limit : ℕ) (text : List ℕ) → limit < length text → Unreadable ≡ text_within limit (Some text)
past limit text lt = grind (arith, nat_tests)

module _ (failing : Bool) (limit : ℕ) (file : Option (List ℕ)) where
  pub holds : (text : List ℕ) → (failing ≡ false) × (file ≡ Some text) × (length text ≤ limit) → Holds text ≡ content_of failing limit file
  unfolding content_of
  holds text r = rw (r.0, r.1) (within limit text r.2)

  pub absent : (failing ≡ false) × (file ≡ None) → Absent ≡ content_of failing limit file
  unfolding content_of
  absent r = rw (r.0, r.1) refl

  pub failed : failing ≡ true → Unreadable ≡ content_of failing limit file
  unfolding content_of
  failed r = rw r refl

pub too_long : (failing : Bool) (limit : ℕ) (file : Option (List ℕ)) → (failing ≡ false) × IsSomeAnd file (λ text. limit < length text) → Unreadable ≡ content_of failing limit file
unfolding content_of
too_long failing limit None r = absurd r.1
too_long failing limit (Some text) r = rw r.0 (past limit text r.1)
