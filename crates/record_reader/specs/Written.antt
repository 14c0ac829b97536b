-- What was written to any sink (this project's own).
use Rattle.std.specs.Prelude.{◌≡◌, ◌+◌, ◌≤◌, List, ℕ, ◌++◌, length}
use Rattle.pam_outside.specs.Streams.{SinkState}

-- some text was written, with at most one more call than it has bytes
pub record WritesText (old new : SinkState) : Type 0 where
  pub text : List ℕ
  pub written : new.written ≡ old.written ++ text
  pub calls : new.calls ≤ old.calls + length text + 1
