-- The check of a service's configuration (this project's own): the configuration in one form, or its first fault.
use Rattle.std.specs.Prelude.{◌≡◌, ℕ, ◌+◌, ◌≤◌, List, ◌++◌, length, codes, Result, Ok, Err, OnOk, IfOk, ◌≢◌}
use Rattle.std.specs.List.{flat_map}
use Rattle.std.specs.Str.{str_to_ascii_lowercase}
use Rattle.pam_outside.specs.Files.{VaultState}
use Rattle.pam_outside.specs.Streams.{SinkState}
use Rattle.service_print.specs.control_words.specs.Stack.{Stack}
use Rattle.service_print.specs.service_load.specs.declared.rule_type.RuleType.{RuleType}
use Rattle.service_print.specs.service_load.specs.FirstFault.{Counts, Stop}
use Rattle.service_print.specs.service_load.specs.Load.{loaded, directory_exists}
use Rattle.service_print.specs.service_load.specs.Loading.{texts_of}
use Rattle.service_print.specs.service_load.specs.Tree.{tree}
use Rattle.service_print.specs.declared.file.File.{File}
use Rattle.service_print.specs.Printed.{printed}
use Rattle.report_step.specs.Fault.{refused_text}
use Rattle.record_reader.specs.declared.ending.Stop.{Stop as Stopped}
use Rattle.record_reader.specs.declared.ending.Stop.TheVariants.{NoMemory}
use Rattle.cmd_check.specs.declared.finding.Finding.{Finding}
use Rattle.cmd_check.specs.declared.finding.Checked.{Checked}
use Rattle.cmd_check.specs.declared.finding.Checked.TheVariants.{Configured, Refused}

-- file NAME, and its text
abbrev pub file_text : File → List ℕ
file_text file = codes "file " ++ (file.name ++ (codes "\n" ++ file.text))

abbrev pub files_text : List File → List ℕ
files_text files = flat_map file_text files

-- what a check writes and finds, and how often `Vault` was called by then
pub record Check : Type 0 where
  pub text : List ℕ
  pub found : Checked
  pub calls : ℕ

abbrev pub check_by : (RuleType → Stack) → List ℕ → Result Counts Stop → Check
check_by stack service (Ok counts) =
    record {
      text = files_text (printed stack (str_to_ascii_lowercase service));
      found = Configured;
      calls = counts.calls;
    }
check_by stack service (Err stop) = record {
  text = refused_text stop.fault;
  found = Refused;
  calls = stop.calls;
}

-- the check of a service under a root
abbrev pub check_of : VaultState → List ℕ → List ℕ → Check
check_of vault root service =
    check_by (tree (texts_of root vault) (directory_exists vault root) service) service
    (loaded vault root service)

-- A check found this, and its text is written, or a prefix of it. If an allocation fails, `Vault` may have been called
-- less often.
pub record Checks (result : Result Checked Stopped) (c : Check) (old new : SinkState)
    (vault : VaultState) : Type 0 where
  pub front : List ℕ
  pub back : List ℕ
  pub parts : c.text ≡ front ++ back
  pub written : new.written ≡ old.written ++ front
  pub all : OnOk result (front ≡ c.text)
  pub found : IfOk result (λ found. found ≡ c.found)
  pub asked : result ≢ Err NoMemory → vault.calls ≡ c.calls
  pub writes : new.calls ≤ old.calls + length front + 1

-- What is known of a check if only the files are modelled, whether or not its text could be
-- written: what was found, and how often `Vault` was called by then.
pub record Finds (result : Result Checked Stopped) (c : Check) (vault : VaultState) : Type 0 where
  pub found : IfOk result (λ found. found ≡ c.found)
  pub asked : result ≢ Err NoMemory → vault.calls ≡ c.calls

-- what was found, and its text, are those of a check
pub record IsCheck (finding : Finding) (c : Check) (vault : VaultState) : Type 0 where
  pub found : finding.found ≡ c.found
  pub text : finding.text.items ≡ c.text
  pub asked : vault.calls ≡ c.calls
