-- The first item of some bytes (this project's own).
use Rattle.std.specs.Prelude.{◌≡◌, ℕ, ◌+◌, ◌≤◌, ◌<◌, Bool, false, List, [], ◌∷◌, ◌++◌, length, take, drop}
use Rattle.record_reader.specs.declared.stepping.FirstItem.{FirstItem}
use Rattle.record_reader.specs.declared.stepping.FirstItem.TheVariants.{Wait, Item, Last}
use Rattle.record_reader.specs.Run.{Looks, Refuses}

-- an item of n bytes comes first, whatever follows, and the other items are cut from the bytes after it
pub record IsItem (looked : Looks) (n item_size size : ℕ) (held : List ℕ) : Type 0 where
  pub within : item_size ≤ size
  pub whole : size ≤ length held
  pub seen : (more : List ℕ) (ended : Bool) → looked n (held ++ more) ended
      ≡ take item_size held ∷ looked (n + 1) (drop size held ++ more) ended

abbrev pub IsFirstItem : Looks → Refuses → FirstItem → ℕ → List ℕ → Type 0
IsFirstItem looked refuses Wait n held = (looked n held false ≡ []) × (length held ≤ 581)
IsFirstItem looked refuses (Item item_size size) n held = IsItem looked n item_size size held
IsFirstItem looked refuses Last n held = (0 < length held) × (looked n held false ≡ held ∷ [])
    × refuses n held
