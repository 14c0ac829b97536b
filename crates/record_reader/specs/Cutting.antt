-- The conditions on how items are cut from bytes (this project's own).
use Rattle.std.specs.Prelude.{◌≡◌, ℕ, ◌<◌, Bool, true, false, List, [], ◌∷◌, ◌++◌, length, Some, Ok}
use Rattle.record_reader.specs.Run.{Looks, Refuses, ItemStep, run_of}

-- An empty input has no items, and bytes that wait for more are the last item if the input ends
-- there.
pub record Cuts (looked : Looks) : Type 0 where
  pub none : (n : ℕ) (ended : Bool) → looked n [] ended ≡ []
  pub rest : (n : ℕ) (held : List ℕ) → looked n held false ≡ [] → 0 < length held
      → looked n held true ≡ held ∷ []

-- An item that is refused in every state is refused; and what is refused among some bytes is refused whatever bytes
-- follow, with the same text before it.
pub record Keeps {State Kind : Type 0} (looked : Looks) (refuses : Refuses)
    (step : ItemStep State Kind) : Type 0 where
  pub refused : (n : ℕ) (item : List ℕ) → refuses n item → (s : State) (x : State × List ℕ)
      → step n s item ≡ Ok x → ⊥
  pub stays : (n : ℕ) (c : State) (taken more : List ℕ) (ended : Bool) (kind : Kind)
      → (run_of looked step n c taken false).refused ≡ Some kind →
      run_of looked step n c (taken ++ more) ended ≡ run_of looked step n c taken false
