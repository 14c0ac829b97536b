-- A transcript that is read from a source, up to a limit (this project's own).
use Rattle.std.specs.Prelude.{◌≡◌, ℕ, ◌+◌, ◌≤◌, ◌<◌, Bool, true, false, List, [], ◌++◌, length, Option, Some, Result, Ok, OnOk}
use Rattle.pam_base.specs.declared.fault.NoMemory.{NoMemory}
use Rattle.pam_outside.specs.Streams.{SourceState}
use Rattle.cmd_audit.specs.declared.transcript.Transcript.{Transcript}
use Rattle.cmd_audit.specs.declared.transcript.Transcript.TheVariants.{Whole, TooLong, Unread}

-- At most 1,048,577 bytes were taken, with at most one read more than they are, and at most one if none was left.
pub record Takes (old new : SourceState) : Type 0 where
  pub taken : List ℕ
  pub parts : old.left ≡ taken ++ new.left
  pub few : length taken ≤ 1048577
  pub reads : new.calls ≤ old.calls + length taken + 1
  pub ends : new.reads_at_end ≤ old.reads_at_end + 1

-- what was read of a source that held these bytes
abbrev pub IsRead : Transcript → List ℕ → Type 0
IsRead (Whole text) left = text ≡ left
IsRead TooLong left = 1048576 < length left
IsRead Unread left = Unit {0}

-- how far the source was read: to its end, or one byte past the limit
abbrev pub ReadsTo : Transcript → List ℕ → List ℕ → Type 0
ReadsTo (Whole text) before left = left ≡ []
ReadsTo TooLong before left = length left + 1048576 < length before
ReadsTo Unread before left = Unit {0}

abbrev pub IsShort : Transcript → Type 0
IsShort (Whole text) = length text ≤ 1048576
IsShort TooLong = Unit {0}
IsShort Unread = Unit {0}

abbrev pub is_unread : Transcript → Bool
is_unread Unread = true
is_unread transcript = false

-- One read: the bytes that it got are added to the text so far, or it failed and got nothing. If an
-- allocation fails, these bytes are lost.
pub record ReadsMore (result : Result (Option ℕ) NoMemory) (before after : List ℕ)
    (old new : SourceState) : Type 0 where
  pub got : List ℕ
  pub source : old.left ≡ got ++ new.left
  pub room : length before + length got ≤ 1048577
  pub held : OnOk result (after ≡ before ++ got)
  pub end : result ≡ Ok (Some 0) → new.left ≡ []
  pub calls : new.calls ≤ old.calls + 1
  pub at_end : new.reads_at_end ≤ old.reads_at_end + 1
  pub within : (n : ℕ) → result ≡ Ok (Some n) → 0 < n → new.reads_at_end ≡ old.reads_at_end
