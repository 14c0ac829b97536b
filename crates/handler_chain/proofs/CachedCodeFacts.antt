-- What lines that are run cache.
use Rattle.std.proofs.Common.{◌≡◌, ℕ, ◌+◌, ◌≤◌, Bool, true, false, nat_eq, ◌||◌, if◌then◌else◌, List, [], ◌∷◌, ◌++◌, Option, Some, None, is_some, refl, ◌∙◌, ap, arith, eq-eqb, ne_eqb}
use Rattle.std.specs.List.{list_any}
use Rattle.pam_base.specs.declared.code.Code.{Code}
use Rattle.handler_chain.specs.Pass.{Visit, visit, kept_in, places_of}

pub places-add : (vs : List Visit) (at : ℕ) (p : Code) → places_of (vs ++ visit at p ∷ []) ≡ places_of vs ++ at ∷ []
places-add [] at p = refl
places-add (v ∷ vs) at p = ap (λ (xs : List ℕ). v.place ∷ xs) (places-add vs at p)

-- a cached code stays
still_if : (b : Bool) (x : Code) (first second : Option Code) (k : Code) → (first ≡ Some k → second ≡ Some k) → (if b then Some x else first) ≡ Some k
    → (if b then Some x else second) ≡ Some k
still_if true x first second k goes is = is
still_if false x first second k goes is = goes is

pub kept-still : (vs ws : List Visit) (place : ℕ) (k : Code) → kept_in vs place ≡ Some k → kept_in (vs ++ ws) place ≡ Some k
kept-still [] ws place k is = cc
kept-still (v ∷ vs) ws place k is = still_if (nat_eq place v.place) v.answer _ _ k (kept-still vs ws place k) is

-- if nothing is found before, the result is what comes next
next_if : (b : Bool) (x : Code) (first second third : Option Code) → (first ≡ None → second ≡ third) → (if b then Some x else first) ≡ None
    → (if b then Some x else second) ≡ third
next_if true x first second third goes is = cc
next_if false x first second third goes is = goes is

pub kept-next : (vs ws : List Visit) (place : ℕ) → kept_in vs place ≡ None → kept_in (vs ++ ws) place ≡ kept_in ws place
kept-next [] ws place is = refl
kept-next (v ∷ vs) ws place is = next_if (nat_eq place v.place) v.answer _ _ _ (kept-next vs ws place) is

pub kept-add : (vs : List Visit) (at : ℕ) (p : Code) → kept_in vs at ≡ None → kept_in (vs ++ visit at p ∷ []) at ≡ Some p
kept-add vs at p is = kept-next vs (visit at p ∷ []) at is ∙ ap (λ (b : Bool). if b then Some p else None) (eq-eqb at at refl)

pub kept-past : (vs : List Visit) (at place : ℕ) (p : Code) → at + 1 ≤ place → kept_in vs place ≡ None → kept_in (vs ++ visit at p ∷ []) place ≡ None
kept-past vs at place p le is =
    kept-next vs (visit at p ∷ []) place is ∙ ap (λ (b : Bool). if b then Some p else None) (ne_eqb place at (λ same. omega arith))

-- the lines that have a cached code are those that were run
some_if : (b : Bool) (x : Code) (rest : Option Code) (c : Bool) → is_some rest ≡ c → is_some (if b then Some x else rest) ≡ (b || c)
some_if true x rest c is = refl
some_if false x rest c is = is

pub kept-places : (vs : List Visit) (place : ℕ) → is_some (kept_in vs place) ≡ list_any (nat_eq place) (places_of vs)
kept-places [] place = refl
kept-places (v ∷ vs) place = some_if (nat_eq place v.place) v.answer (kept_in vs place) _ (kept-places vs place)
