-- The failures of a user, listed (pam_faillock(8); the file's form is that of mod_tally, what is written is this
-- project's own).
use Rattle.std.specs.Prelude.{◌≡◌, ℕ, ◌+◌, ◌≤◌, nat_lt, if◌then◌else◌, List, [], ◌++◌, length, codes, decimal, Option, Some, None, Result, IfOk, OnOk}
use Rattle.std.specs.List.{flat_map}
use Rattle.pam_outside.specs.Files.{VaultState, file_at, is_failing}
use Rattle.pam_outside.specs.Streams.{SinkState}
use Rattle.record_reader.specs.declared.ending.Stop.{Stop}
use Rattle.pam_outside.specs.Paths.{path_of}
use Rattle.mod_tally.specs.declared.tally.Failure.{Failure}
use Rattle.mod_tally.specs.Faillock.{tally_limit}
use Rattle.mod_tally.specs.Tally.{failure_line, failures_of}
use Rattle.cmd_tally.specs.declared.finding.Finding.{Finding}
use Rattle.cmd_tally.specs.declared.finding.Tallied.{Tallied}
use Rattle.cmd_tally.specs.declared.finding.Tallied.TheVariants.{Listed, Damaged, Unread}

-- what is found, and what is written of it
pub record PlainTally : Type 0 where
  pub tallied : Tallied
  pub text : List ℕ

-- each failure as the file has it, and how many they are
abbrev pub listed : List Failure → PlainTally
listed failures = record {
  tallied = Listed;
  text = flat_map failure_line failures
      ++ (codes "failures " ++ (decimal (length failures) ++ codes "\n"));
}

abbrev pub damaged : PlainTally
damaged = record { tallied = Damaged; text = codes "tally damaged\n" }

abbrev pub unread : PlainTally
unread = record { tallied = Unread; text = codes "tally unread\n" }

-- a text that isn't that of a tally is damaged
abbrev pub by_text : Option (List Failure) → PlainTally
by_text (Some failures) = listed failures
by_text None = damaged

-- a file that doesn't exist has no failures, and one that is longer than a tally may be is damaged
abbrev pub by_file : Option (List ℕ) → PlainTally
by_file None = listed []
by_file (Some text) = if nat_lt tally_limit (length text) then damaged
    else by_text (failures_of text)

abbrev pub tally_path : List ℕ → List ℕ → List ℕ
tally_path root user = path_of root (codes "/var/run/faillock/" ++ user)

-- the tally of a user under a root: unread if the call of `Vault` is set to fail
unfoldable pub tally_of : VaultState → List ℕ → List ℕ → PlainTally
tally_of vault root user = if is_failing vault then unread
    else by_file (file_at (tally_path root user) vault.files)

-- the finding is this one
pub record IsTally (finding : Finding) (t : PlainTally) : Type 0 where
  pub tallied : finding.tallied ≡ t.tallied
  pub text : finding.text ≡ t.text

-- This was found, and its text is written, or a prefix of it.
pub record Lists (result : Result Tallied Stop) (t : PlainTally) (old new : SinkState) : Type
    0 where
  pub front : List ℕ
  pub back : List ℕ
  pub parts : t.text ≡ front ++ back
  pub written : new.written ≡ old.written ++ front
  pub all : OnOk result (front ≡ t.text)
  pub tallied : IfOk result (λ tallied. tallied ≡ t.tallied)
  pub writes : new.calls ≤ old.calls + length front + 1
