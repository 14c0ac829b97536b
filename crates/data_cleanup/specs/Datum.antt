-- Module data as contracts see them (this project's own).
use Rattle.std.specs.Prelude.{ℕ, List}

-- the id of their set, the number of the module that set them, their name and their text
pub record PlainDatum : Type 0 where
  pub id : ℕ
  pub owner : ℕ
  pub name : List ℕ
  pub payload : List ℕ
