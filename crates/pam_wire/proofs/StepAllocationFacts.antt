-- Only a step allocates.
use Rattle.std.proofs.Common.{◌≡◌, ℕ, ◌-◌, ◌≤◌, true, List, [], ◌∷◌, length, take, drop, Option, Some, None, is_some, slice_index_or, Result, Ok, Err, refl, subst, arith}
use Rattle.std.proofs.lemmas.List.{take_all}
use Rattle.std.specs.Prelude.{OnErr, option_map}
use Rattle.pam_base.specs.declared.call.CallName.{CallName}
use Rattle.pam_wire.specs.Kind.{call_of_number}
use Rattle.pam_wire.specs.Read.{call_in, call_of_kind, step_in, step_with}

-- if a value exists, so does what is made of it
made_of : {A B : Type 0} (f : A → B) (o : Option A) → is_some o ≡ true → is_some (option_map f o) ≡ true
made_of f None e = e
made_of f (Some x) e = refl

by_kind : (o : Option CallName) (kind : CallName) (rest : List ℕ) → o ≡ Some kind → is_some (call_in kind rest) ≡ true → is_some (call_of_kind o rest) ≡ true
by_kind o kind rest e h = rw e h

-- a body with a call has a step
pub has_step : (body : List ℕ) (kind : CallName) → 2 ≤ length body → call_of_number (slice_index_or body 1 0) ≡ Some kind
    → is_some (call_in kind (take (length body - 2) (drop 2 body))) ≡ true → is_some (step_in body) ≡ true
has_step [] kind le e h = absurd (omega (arith, le))
has_step (a ∷ []) kind le e h = absurd (omega (arith, le))
has_step (a ∷ b ∷ rest) kind le e h =
    let all : take (length (a ∷ b ∷ rest) - 2) rest ≡ rest = take_all _ rest (omega arith) in
    made_of (step_with a) (call_of_kind (call_of_number b) rest) (by_kind (call_of_number b) kind rest e (subst (λ r. is_some (call_in kind r) ≡ true) all h))

pub whichever : {T E : Type 0} (r : Result T E) (X : Type 0) → X → OnErr r X
whichever (Ok v) X x = tt
whichever (Err e) X x = x
