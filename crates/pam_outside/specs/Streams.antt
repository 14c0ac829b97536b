-- The content of a modelled source and of a modelled sink, and what a call does to them (this project's own).
use Rattle.std.specs.Prelude.{◌≡◌, ℕ, ◌+◌, ◌≤◌, List, [], ◌++◌, length, take, Result, Ok, IfOk, OnOk, OnErr}
use Rattle.pam_base.specs.declared.fault.Failed.{Failed}
use Rattle.pam_outside.specs.Counts.{next_count, next_at_end}

-- a source: the bytes that are left, how often it was read, and how often none was left then
pub record SourceState : Type 0 where
  pub left : List ℕ
  pub calls : ℕ
  pub reads_at_end : ℕ

-- a sink: the bytes that were written, and how often it was called
pub record SinkState : Type 0 where
  pub written : List ℕ
  pub calls : ℕ

-- the next bytes are taken, none only at the end, and none if it fails
pub record Reads (result : Result ℕ Failed) (into : List ℕ) (old new : SourceState) : Type 0 where
  pub calls : new.calls ≡ next_count old.calls
  pub at_end : new.reads_at_end ≡ next_at_end old.reads_at_end (length old.left)
  pub taken : IfOk result (λ n. old.left ≡ take n into ++ new.left)
  pub end : result ≡ Ok 0 → new.left ≡ []
  pub none : OnErr result (new.left ≡ old.left)

-- a prefix of the piece is written, and nothing if it fails
pub record Writes (result : Result ℕ Failed) (piece : List ℕ) (old new : SinkState) : Type 0 where
  pub calls : new.calls ≡ next_count old.calls
  pub some : IfOk result (λ n. new.written ≡ old.written ++ take n piece)
  pub none : OnErr result (new.written ≡ old.written)

-- a prefix of the text is written, with at most one more call than it has bytes; all of it if
-- nothing failed, and then with at most as many calls as it has bytes
pub record WritesWhole {T : Type 0} (result : Result T Failed) (text : List ℕ)
    (old new : SinkState) : Type 0 where
  pub front : List ℕ
  pub back : List ℕ
  pub parts : text ≡ front ++ back
  pub written : new.written ≡ old.written ++ front
  pub all : OnOk result (front ≡ text)
  pub calls_ok : OnOk result (new.calls ≤ old.calls + length front)
  pub calls : new.calls ≤ old.calls + length front + 1
