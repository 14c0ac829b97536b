-- A line that is accepted.
use Rattle.std.proofs.Common.{◌≡◌, ℕ, Bool, true, false, ◌||◌, leb, ltb, List, length, cond, Result, Ok, Err, refl}
use Rattle.pam_base.specs.declared.fault.ScriptKind.TheVariants.{LineTooLong, TooManyLines}
use Rattle.record_reader.specs.LineRun.{LineStep, step_at}

chosen : {A E : Type 0} (b : Bool) (k : E) (r : Result A E) (x : A) → cond b (Err k) r ≡ Ok x → b ≡ false
chosen true k r x e = absurd cc
chosen false k r x e = refl

both_false : (a b : Bool) → a ≡ false → b ≡ false → (a || b) ≡ false
both_false a b e f = rw (e, f) refl

module _ {State : Type 0} (step : LineStep State) where
  -- a line that is accepted is neither too long nor one too many
  pub accepted-fits : (n : ℕ) (c : State) (line : List ℕ) (x : State × List ℕ) → step_at step n c line ≡ Ok x → (leb 65536 n || ltb 513 (length line)) ≡ false
  unfolding step_at
  accepted-fits n c line x e =
      let first = chosen (leb 65536 n) TooManyLines _ x e in
      let second = chosen (ltb 513 (length line)) LineTooLong (step n c line) x (rw first at e) in
      both_false _ _ first second
