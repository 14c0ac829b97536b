-- A text is written piece by piece.
use Rattle.std.proofs.Common.{◌≡◌, ℕ, ◌+◌, ◌≤◌, List, ◌++◌, length}
use Rattle.pam_outside.specs.Streams.{SinkState}

-- a prefix was written, and the rest is left
pub record IsWritten (text rest : List ℕ) (old now : SinkState) : Type 0 where
  pub front : List ℕ
  pub parts : text ≡ front ++ rest
  pub written : now.written ≡ old.written ++ front
  pub calls : now.calls ≤ old.calls + length front
