-- The statuses of the commands that read no script (this project's own).
use Rattle.std.specs.Prelude.{◌≡◌, ◌⊎◌, ℕ, ◌+◌, ◌≤◌, List, ◌++◌, length, Result, IfOk}
use Rattle.pam_outside.specs.Counts.{Rose}
use Rattle.pam_outside.specs.Files.{VaultState, counted}
use Rattle.pam_outside.specs.Streams.{SinkState}
use Rattle.record_reader.specs.declared.ending.Stop.{Stop}
use Rattle.cmd_check.specs.declared.finding.Checked.{Checked}
use Rattle.cmd_check.specs.Check.{Check, Checks, Finds}
use Rattle.cmd_tally.specs.declared.finding.Tallied.{Tallied}
use Rattle.cmd_tally.specs.Tally.{Lists, PlainTally}
use Rattle.cmd_all.specs.declared.exit.Exit.TheVariants.{Done, Usage, NoMemory, TallyDamaged, TallyUnread}
use Rattle.cmd_all.specs.Command.{usage}
use Rattle.cmd_all.specs.Exit.{check_exit, exit_status, tally_exit}

-- a check with modelled objects, by its status
pub record ChecksBy (status : ℕ) (c : Check) (old new : SinkState) (vault : VaultState) : Type
    0 where
  pub result : Result Checked Stop
  pub is : status ≡ exit_status (check_exit result)
  pub checks : Checks result c old new vault

-- a check of modelled files, by its status, whatever the sink does
pub record FindsBy (status : ℕ) (c : Check) (vault : VaultState) : Type 0 where
  pub result : Result Checked Stop
  pub is : status ≡ exit_status (check_exit result)
  pub finds : Finds result c vault

abbrev pub IsCheckStatus : ℕ → Type 0
IsCheckStatus n = (result : Result Checked Stop) × (n ≡ exit_status (check_exit result))

-- a list with modelled objects, by its status
pub record TalliesBy (status : ℕ) (t : PlainTally) (old new : SinkState) : Type 0 where
  pub result : Result Tallied Stop
  pub is : status ≡ exit_status (tally_exit result)
  pub lists : Lists result t old new

-- a list of failures in modelled files, by its status, whatever the output does
pub record FindsTally (status : ℕ) (t : PlainTally) : Type 0 where
  pub result : Result Tallied Stop
  pub is : status ≡ exit_status (tally_exit result)
  pub found : IfOk result (λ tallied. tallied ≡ t.tallied)

abbrev pub IsTallyStatus : ℕ → Type 0
IsTallyStatus n = (result : Result Tallied Stop) × (n ≡ exit_status (tally_exit result))

-- `Vault` was called once, or, if an allocation for the path failed, not at all
abbrev pub CallsOnce : ℕ → VaultState → VaultState → Type 0
CallsOnce status old new = (new ≡ counted old) ⊎ ((status ≡ exit_status NoMemory) × (new ≡ old))

-- the count of failures of `Vault`, before and after: it rises with 10, and doesn't with 0 and 9
pub record CountsUnread (status before now : ℕ) : Type 0 where
  pub unread : status ≡ exit_status TallyUnread → Rose before now
  pub read : (status ≡ exit_status Done) ⊎ (status ≡ exit_status TallyDamaged) → now ≡ before

-- the usage line is written, or a prefix of it if a write failed
pub record WritesUsage (status : ℕ) (old new : SinkState) : Type 0 where
  pub front : List ℕ
  pub back : List ℕ
  pub parts : usage ≡ front ++ back
  pub written : new.written ≡ old.written ++ front
  pub all : status ≡ exit_status Usage → front ≡ usage
  pub calls : new.calls ≤ old.calls + length front + 1
