-- The statuses of an audit (this project's own).
use Rattle.std.specs.Prelude.{◌≡◌, ◌⊎◌, ℕ, List, Option, Some, None, Result, IfOk}
use Rattle.pam_outside.specs.Streams.{SinkState}
use Rattle.record_reader.specs.declared.ending.Stop.{Stop}
use Rattle.cmd_audit.specs.declared.finding.Audited.{Audited}
use Rattle.cmd_audit.specs.Audit.{Audit, Audits, ReadsUpTo}
use Rattle.cmd_all.specs.Exit.{audit_exit, exit_status}

-- an audit with modelled objects, by its status: of the transcript, or of one that couldn't be read
pub record AuditsBy (status : ℕ) (audit : Option (List ℕ) → Audit) (transcript : List ℕ)
    (old new : SinkState) : Type 0 where
  pub result : Result Audited Stop
  pub is : status ≡ exit_status (audit_exit result)
  pub audits : Audits result (audit (Some transcript)) old new
      ⊎ Audits result (audit None) old new

-- how far a modelled source was read, by the status, whatever the files and the output do
pub record ReadsAudited (status : ℕ) (before left : List ℕ) : Type 0 where
  pub result : Result Audited Stop
  pub is : status ≡ exit_status (audit_exit result)
  pub reads : IfOk result (λ found. ReadsUpTo found before left)

abbrev pub IsAuditStatus : ℕ → Type 0
IsAuditStatus n = (result : Result Audited Stop) × (n ≡ exit_status (audit_exit result))
