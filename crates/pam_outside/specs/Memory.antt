-- The content of the objects in memory (this project's own).
use Rattle.std.specs.Prelude.{ℕ, List}
use Rattle.pam_outside.specs.Files.{File, Locks}
use Rattle.pam_outside.specs.Streams.{SinkState, SourceState}

-- a source: the bytes that are left, the reads so far and those of them at the end, the failures, and the numbers of
-- the calls planned to fail
pub record SourceMemory : Type 0 where
  pub left : List ℕ
  pub calls : ℕ
  pub reads_at_end : ℕ
  pub faults : ℕ
  pub fails : List ℕ

-- what contracts know of any modelled source
abbrev pub source_state : SourceMemory → SourceState
source_state s = record { left = s.left; calls = s.calls; reads_at_end = s.reads_at_end }

-- a sink: the bytes that were written, the bytes for which it still has room, the calls and the failures so far, and
-- the numbers of the calls planned to fail
pub record SinkMemory : Type 0 where
  pub written : List ℕ
  pub room : ℕ
  pub calls : ℕ
  pub faults : ℕ
  pub fails : List ℕ

-- what contracts know of any modelled sink
abbrev pub sink_state : SinkMemory → SinkState
sink_state s = record { written = s.written; calls = s.calls }

-- a file store: the files, the locks, the calls and the failures so far, and the numbers of the calls planned to fail
pub record VaultMemory : Type 0 where
  pub files : List File
  pub locks : Locks
  pub calls : ℕ
  pub faults : ℕ
  pub fails : List ℕ
