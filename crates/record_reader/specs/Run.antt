-- A run: the steps of items, one after the other, whatever an item is and does (this project's own).
use Rattle.std.specs.Prelude.{ℕ, ◌+◌, Bool, List, [], ◌∷◌, ◌++◌, Option, Some, None, Result, Ok, Err}

-- the items cut from some bytes that follow n items; the flag says whether the input ends after them
abbrev pub Looks : Type 0
Looks = ℕ → List ℕ → Bool → List (List ℕ)

-- the items after n others that are refused in every state
abbrev pub Refuses : Type 1
Refuses = ℕ → List ℕ → Type 0

-- the effect on a state of an item after n others: the next state and the text to write, or why it is refused
abbrev pub ItemStep : Type 0 → Type 0 → Type 0
ItemStep State Kind = ℕ → State → List ℕ → Result (State × List ℕ) Kind

-- the states that an item after n others may leave if it runs out of memory
abbrev pub ItemFails : Type 0 → Type 1
ItemFails State = ℕ → State → List ℕ → State → Type 0

-- the result of several items: the text of those before the first refused one, the state after them, the number of
-- items before what follows, and why an item was refused
pub record Run (State Kind : Type 0) : Type 0 where
  pub text : List ℕ
  pub last : State
  pub items : ℕ
  pub refused : Option Kind

abbrev pub come_to : {State Kind : Type 0} → List ℕ → State → ℕ → Option Kind → Run State Kind
come_to text last items refused = record {
  text = text;
  last = last;
  items = items;
  refused = refused;
}

abbrev pub with_text : {State Kind : Type 0} → List ℕ → Run State Kind → Run State Kind
with_text text r = record {
  text = text ++ r.text;
  last = r.last;
  items = r.items;
  refused = r.refused;
}

-- an item's outcome, combined with that of the following items
abbrev pub after : {State Kind : Type 0} → ℕ → State → Result (State × List ℕ) Kind
    → (State → Run State Kind) → Run State Kind
after n s (Ok x) next = with_text x.1 (next x.0)
after n s (Err kind) next = come_to [] s n (Some kind)

-- the fold of the steps over items that follow n others
unfoldable pub run_items : {State Kind : Type 0} → ItemStep State Kind → ℕ → State → List (List ℕ)
    → Run State Kind
run_items step n s [] = come_to [] s n None
run_items step n s (l ∷ ls) = after n s (step n s l) (λ t. run_items step (n + 1) t ls)

-- the result of bytes that follow n items; `ended` says that the input ends after them
unfoldable pub run_of : {State Kind : Type 0} → Looks → ItemStep State Kind → ℕ → State → List ℕ
    → Bool → Run State Kind
run_of looked step n s bytes ended = run_items step n s (looked n bytes ended)
