-- The audit of a transcript against the stacks of a service (this project's own): what is found, and what is written
-- of it.
use Rattle.std.specs.Prelude.{◌≡◌, ◌⊎◌, ℕ, ◌+◌, ◌<◌, ◌≤◌, nat_lt, if◌then◌else◌, Bool, true, false, List, [], ◌++◌, length, codes, decimal, Option, Some, None, Result, Ok, Err, OnOk, IfOk}
use Rattle.pam_outside.specs.Files.{VaultState}
use Rattle.pam_outside.specs.Streams.{SinkState}
use Rattle.session_audit.specs.control_words.specs.Stack.{Stack}
use Rattle.session_audit.specs.service_load.specs.declared.load_fault.LoadFault.{LoadFault}
use Rattle.session_audit.specs.service_load.specs.declared.rule_type.RuleType.{RuleType}
use Rattle.session_audit.specs.service_load.specs.FirstFault.{Counts, Stop}
use Rattle.session_audit.specs.service_load.specs.Load.{loaded, directory_exists}
use Rattle.session_audit.specs.service_load.specs.Loading.{texts_of}
use Rattle.session_audit.specs.service_load.specs.Stacks.{Stacks, stacks_of}
use Rattle.session_audit.specs.service_load.specs.Tree.{tree}
use Rattle.session_audit.specs.report_lines.specs.Line.{refused_words}
use Rattle.session_audit.specs.report_lines.specs.Guess.{read_line}
use Rattle.session_audit.specs.Differs.{differs}
use Rattle.session_audit.specs.Whole.{lines_read}
use Rattle.record_reader.specs.declared.ending.Stop.{Stop as Stopped}
use Rattle.record_reader.specs.declared.ending.Stop.TheVariants.{NoMemory}
use Rattle.cmd_audit.specs.declared.finding.Finding.{Finding}
use Rattle.cmd_audit.specs.declared.finding.Audited.{Audited}
use Rattle.cmd_audit.specs.declared.finding.Audited.TheVariants.{Fits, Differs, Refused, TooLong, Unread}

-- what an audit finds and writes
pub record Audit : Type 0 where
  pub found : Audited
  pub text : List ℕ

-- the finding, by the line that differs, if one does
abbrev pub judged : Option ℕ → Audit
judged None = record { found = Fits; text = codes "fits\n" }
judged (Some line) = record {
  found = Differs;
  text = codes "differs " ++ (decimal line ++ codes "\n");
}

abbrev pub too_long : Audit
too_long = record { found = TooLong; text = codes "transcript too long\n" }

abbrev pub unread : Audit
unread = record { found = Unread; text = [] }

abbrev pub refused : LoadFault → Audit
refused fault = record { found = Refused; text = refused_words fault ++ codes "\n" }

-- of a transcript against the stacks of a service, or None if it couldn't be read
abbrev pub audit_by : Stacks → Option (List ℕ) → Audit
audit_by stacks None = unread
audit_by stacks (Some text) =
    if nat_lt 1048576 (length text) then too_long
    else judged (differs stacks (lines_read read_line text))

-- if the configuration is refused, whatever the transcript is
abbrev pub audit_from : (RuleType → Stack) → Result Counts Stop → Option (List ℕ) → Audit
audit_from stack (Ok counts) input = audit_by (stacks_of stack) input
audit_from stack (Err stop) input = refused stop.fault

-- the audit of a transcript against a service under a root
abbrev pub audit_of : VaultState → List ℕ → List ℕ → Option (List ℕ) → Audit
audit_of vault root service input =
    audit_from (tree (texts_of root vault) (directory_exists vault root) service)
    (loaded vault root service) input

-- how often `Vault` was called by the end of a load
abbrev pub calls_of : Result Counts Stop → ℕ
calls_of (Ok counts) = counts.calls
calls_of (Err stop) = stop.calls

-- what was found, and its text, are those of an audit
pub record IsAudit (finding : Finding) (a : Audit) : Type 0 where
  pub found : finding.audited ≡ a.found
  pub text : finding.text ≡ a.text

-- what was found, and its text, are those of the audit of this transcript, or of one that couldn't
-- be read
abbrev pub IsAuditOf : Finding → (Option (List ℕ) → Audit) → List ℕ → Type 0
IsAuditOf finding audit transcript = IsAudit finding (audit (Some transcript))
    ⊎ IsAudit finding (audit None)

-- An audit found this, and its text is written, or a prefix of it; nothing if an allocation fails.
pub record Audits (result : Result Audited Stopped) (a : Audit) (old new : SinkState) : Type
    0 where
  pub front : List ℕ
  pub back : List ℕ
  pub parts : a.text ≡ front ++ back
  pub written : new.written ≡ old.written ++ front
  pub all : OnOk result (front ≡ a.text)
  pub none : result ≡ Err NoMemory → front ≡ []
  pub found : IfOk result (λ found. found ≡ a.found)
  pub writes : new.calls ≤ old.calls + length front + 1

-- the transcript was compared with the stacks
abbrev pub IsVerdict : Audited → Type 0
IsVerdict found = (found ≡ Fits) ⊎ (found ≡ Differs)

-- how far the transcript was read, by what was found: to its end if there is a verdict, one byte
-- past the limit if it is too long, and not at all if the configuration is refused
abbrev pub ReadsUpTo : Audited → List ℕ → List ℕ → Type 0
ReadsUpTo Fits before left = left ≡ []
ReadsUpTo Differs before left = left ≡ []
ReadsUpTo Refused before left = left ≡ before
ReadsUpTo TooLong before left = length left + 1048576 < length before
ReadsUpTo Unread before left = Unit {0}

-- whether the transcript couldn't be read
abbrev pub is_unread : Audited → Bool
is_unread Unread = true
is_unread found = false

abbrev pub has_read_fault : Result Audited Stopped → Bool
has_read_fault (Ok found) = is_unread found
has_read_fault (Err stop) = false
