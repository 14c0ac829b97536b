-- Paths that differ in their last parts.
use Rattle.std.proofs.Common.{◌≡◌, ◌≢◌, ℕ, Bool, true, false, ◌==◌, ◌||◌, List, [], ◌∷◌, ◌++◌, codes, refl, sym, ap, ◌∙◌, subst, append_assoc, arith}
use Rattle.std.specs.List.{list_any}
use Rattle.pam_outside.specs.Paths.{path_of, root_before}
use Rattle.mod_tally.specs.Faillock.{is_no_file}
use Rattle.laws_audit.specs.Others.{IsApart, IsPart, tally_path}

abbrev slash : ℕ → Bool
slash b = b == 47

-- a text with a slash isn't a part of a path
or_true : (a : Bool) → (a || true) ≡ true
or_true true = refl
or_true false = refl

slashed : (xs v : List ℕ) → list_any slash (xs ++ 47 ∷ v) ≡ true
slashed [] v = refl
slashed (x ∷ xs) v = rw (slashed xs v) (or_true (slash x))

no_part : (xs v : List ℕ) → IsPart (xs ++ 47 ∷ v) → ⊥
no_part xs v part = let both : true ≡ false = sym (slashed xs v) ∙ part in cc

abbrev head_in : List ℕ → ℕ
head_in [] = 0
head_in (b ∷ bs) = b

abbrev tail_in : List ℕ → List ℕ
tail_in [] = []
tail_in (b ∷ bs) = bs

-- what is before the last slash, and what is after it
record Cut (xs ys u v : List ℕ) : Type 0 where
  pub before : xs ≡ ys
  pub the_rest : u ≡ v

cut : (xs ys u v : List ℕ) → IsPart u → IsPart v → xs ++ 47 ∷ u ≡ ys ++ 47 ∷ v → Cut xs ys u v
cut [] [] u v pu pv e = record { before = refl; the_rest = ap tail_in e }
cut [] (y ∷ ys) u v pu pv e = absurd (no_part ys v (subst IsPart (ap tail_in e) pu))
cut (x ∷ xs) [] u v pu pv e = absurd (no_part xs u (subst IsPart (sym (ap tail_in e)) pv))
cut (x ∷ xs) (y ∷ ys) u v pu pv e =
    let c = cut xs ys u v pu pv (ap tail_in e) in
    record { before = ap (λ (b : ℕ). b ∷ xs) (ap head_in e) ∙ ap (λ (bs : List ℕ). y ∷ bs) c.before; the_rest = c.the_rest }

-- ---- a user's file

either : (a b : Bool) → (a || b) ≡ false → b ≡ false
either true b e = absurd cc
either false b e = e

user_is_part : (user : List ℕ) → is_no_file user ≡ false → IsPart user
user_is_part user e = either _ (list_any slash user) e

module _ (root folder user : List ℕ) (apart : IsApart folder) (named : is_no_file user ≡ false) where
  abbrev above : List ℕ
  above = root_before root ++ apart.above

  path_is : tally_path root folder user ≡ (above ++ 47 ∷ apart.last) ++ 47 ∷ user
  unfolding path_of
  path_is = rw apart.rooted
      (ap (λ (f : List ℕ). root_before root ++ (f ++ 47 ∷ user)) apart.directory_is
      ∙ sym (append_assoc (root_before root) (apart.above ++ 47 ∷ apart.last) (47 ∷ user))
      ∙ ap (λ (f : List ℕ). f ++ 47 ∷ user) (sym (append_assoc (root_before root) apart.above (47 ∷ apart.last))))

  -- the path isn't that of a file in a directory whose last part is another one
  differs : (front part name : List ℕ) → IsPart part → IsPart name → apart.last ≢ part
      → (front ++ 47 ∷ part) ++ 47 ∷ name ≡ tally_path root folder user → ⊥
  differs front part name is_part is_name other e =
      let c = cut (front ++ 47 ∷ part) (above ++ 47 ∷ apart.last) name user is_name (user_is_part user named) (e ∙ path_is) in
      let d = cut front above part apart.last is_part apart.part c.before in
      other (sym d.the_rest)

  pub no_shadow : (other : List ℕ) → path_of other (codes "/etc/shadow") ≡ tally_path root folder user → ⊥
  unfolding path_of
  no_shadow other e = differs (root_before other) (codes "etc") (codes "shadow") refl refl apart.not_etc
      (append_assoc (root_before other) (codes "/etc") (codes "/shadow") ∙ e)

  pub no_history : (other : List ℕ) → path_of other (codes "/etc/security/pamsess_history") ≡ tally_path root folder user → ⊥
  unfolding path_of
  no_history other e = differs (root_before other ++ codes "/etc") (codes "security") (codes "pamsess_history") refl refl apart.not_security
      (ap (λ (x : List ℕ). x ++ codes "/pamsess_history") (append_assoc (root_before other) (codes "/etc") (codes "/security"))
      ∙ append_assoc (root_before other) (codes "/etc/security") (codes "/pamsess_history") ∙ e)

-- the directory without `dir=`
pub usual : IsApart (codes "/var/run/faillock")
usual = record {
  rooted = refl;
  above = codes "/var/run";
  last = codes "faillock";
  directory_is = refl;
  part = refl;
  not_etc = λ e. let heads : 102 ≡ 101 = ap head_in e in omega (arith, heads);
  not_security = λ e. let heads : 102 ≡ 115 = ap head_in e in omega (arith, heads);
}
