-- What is seen of an object, as a source or a sink, before and after a call (this project's own).
use Rattle.std.specs.Prelude.{◌≡◌, ℕ, Bool}

-- whether it is modelled, what it holds, its count of failures, and that it is as it was
pub record Object (State : Type 0) : Type 1 where
  pub tells : Bool
  pub tells_after : Bool
  pub old : State
  pub new : State
  pub faults_before : ℕ
  pub faults_after : ℕ
  pub is_kept : Type 0

abbrev pub object_of : {A State : Type 0} → (A → Bool) → (A → State) → (A → ℕ) → A → A
    → Object State
object_of tells holds faults old new = record {
  tells = tells old;
  tells_after = tells new;
  old = holds old;
  new = holds new;
  faults_before = faults old;
  faults_after = faults new;
  is_kept = new ≡ old;
}
