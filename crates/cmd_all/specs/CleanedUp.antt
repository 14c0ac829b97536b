-- Module data when the program has ended (pam_set_data(3), pam_end(3); which ends there are is this
-- project's own).
use Rattle.std.specs.Prelude.{◌≡◌, ℕ, nat_lt, if◌then◌else◌, Bool, List, length, Option, Some, Result}
use Rattle.data_cleanup.specs.Cleanup.{Notes}
use Rattle.data_cleanup.specs.Due.{Event, due}
use Rattle.data_cleanup.specs.Ledger.{PlainLedger}
use Rattle.data_cleanup.specs.Tidy.{Tidy}
use Rattle.data_cleanup.specs.Modelled.{births_of, receipts_in, times_filed}
use Rattle.record_reader.specs.declared.ending.Stop.{Stop}
use Rattle.cmd_generate.specs.declared.generating.Generated.{Generated}
use Rattle.cmd_generate.specs.Generated.{IsEndOfGenerate}
use Rattle.cmd_login.specs.declared.attempt.Verdict.{Verdict}
use Rattle.cmd_login.specs.Ends.{IsEndOfLogin}
use Rattle.cmd_run.specs.Ends.{EndsAre, IsEndOfRun}
use Rattle.cmd_wire.specs.Ends.{IsEndOfRun as IsEndOfWire}
use Rattle.cmd_all.specs.Command.{Command, runs, logs_in, generates, wires}
use Rattle.cmd_all.specs.Exit.{exit_status, generate_exit, login_exit}

-- All data that were set were cleaned up exactly once: the cleanup records are those that sets and ends of transactions
-- make due, in their order, each with its status, and all data have one. The cleanup log is in order: each record has
-- its owner's result, and data that were replaced by others with their transaction and name have the status that says
-- so. Each end, by its number and its status, is one of these.
pub record IsCleanedUp (Is : ℕ → ℕ → Type 0) (note : Notes) (ledger : PlainLedger) : Type 0 where
  pub events : List Event
  pub ends_are : EndsAre Is events
  pub births : ledger.births ≡ births_of events
  pub receipts : receipts_in ledger.filed ≡ due note events
  pub tidy : Tidy note ledger
  pub once : (id : ℕ) → times_filed id (receipts_in ledger.filed)
      ≡ (if nat_lt id (length ledger.births) then 1 else 0)

-- an end of a login with this status
abbrev pub EndsLogin : ℕ → ℕ → ℕ → Type 0
EndsLogin status number ended = (result : Result Verdict Stop)
    × (status ≡ exit_status (login_exit result)) × IsEndOfLogin result number ended

-- an end of a generation with this status
abbrev pub EndsGenerate : ℕ → ℕ → ℕ → Type 0
EndsGenerate status number ended = (result : Result Generated Stop)
    × (status ≡ exit_status (generate_exit result)) × IsEndOfGenerate result number ended

-- Which ends there can be, by the command and the exit status. In a run whose script is modelled,
-- each transaction was ended with the status that one of the script's lines asks for, for that
-- number, or with one of those with which a run ends open transactions; the same holds for frames,
-- if they are modelled. The commands that open no transaction end none.
abbrev pub MayEnd : Option Command → Bool → List ℕ → ℕ → ℕ → ℕ → Type 0
MayEnd (Some (runs root)) tells script status number ended = IsEndOfRun tells script number ended
MayEnd (Some (logs_in root service user)) tells script status number ended =
    EndsLogin status number ended
MayEnd (Some (generates seed lines)) tells script status number ended =
    EndsGenerate status number ended
MayEnd (Some (wires root)) tells script status number ended =
    IsEndOfWire tells script number ended
MayEnd request tells script status number ended = ⊥
