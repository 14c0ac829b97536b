-- An outside object on a reader, a writer or a runtime (this project's own).
use Rattle.std.specs.Prelude.{ℕ}

-- what it uses, and its failures so far
pub record Adapter (T : Type 0) : Type 0 where
  pub inner : T
  pub faults : ℕ
