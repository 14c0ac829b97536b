-- The explanation of a report against a service: what `explain` writes, and its exit status (this project's own).
use Rattle.std.specs.Prelude.{◌≡◌, ◌⊎◌, ℕ, List, [], ◌++◌, codes, decimal, string_bytes, IsTrue, Option, Some, None, Result, Ok, Err}
use Rattle.pam_base.specs.declared.fault.Failed.{Failed}
use Rattle.pam_base.specs.declared.fault.Refuse.{Refuse}
use Rattle.pam_base.specs.declared.fault.Refuse.TheVariants.{NoMemory, Named}
use Rattle.pam_outside.specs.Counts.{Rose}
use Rattle.pam_outside.specs.Files.{VaultState}
use Rattle.session_audit.specs.control_words.specs.Stack.{Stack}
use Rattle.session_audit.specs.service_load.specs.declared.load_fault.LoadFault.{LoadFault}
use Rattle.session_audit.specs.service_load.specs.declared.rule_type.RuleType.{RuleType}
use Rattle.session_audit.specs.service_load.specs.FirstFault.{Counts, Stop}
use Rattle.session_audit.specs.service_load.specs.Kinds.{KindCounts}
use Rattle.session_audit.specs.service_load.specs.Load.{loaded, directory_exists}
use Rattle.session_audit.specs.service_load.specs.Loading.{texts_of}
use Rattle.session_audit.specs.service_load.specs.Stacks.{Stacks, stacks_of}
use Rattle.session_audit.specs.service_load.specs.Tree.{tree}
use Rattle.session_audit.specs.report_lines.specs.Line.{refused_words}
use Rattle.session_audit.specs.report_lines.specs.Guess.{read_line}
use Rattle.session_audit.specs.Checked.{bare_lines}
use Rattle.session_audit.specs.Differs.{differs}
use Rattle.session_audit.specs.Fits.{all_shut}
use Rattle.session_audit.specs.Whole.{lines_read}
use Rattle.explain_origins.specs.Placed.{sources_at}
use Rattle.explain_origins.specs.Reading.{ends_failing}
use Rattle.explain_report.specs.explain_lines.specs.Origins.{Sources}
use Rattle.explain_report.specs.Report.{explained_from}
use Rattle.explain.specs.declared.explaining.Output.{Output}

-- an exit status and what is written
pub record Written : Type 0 where
  pub status : ℕ
  pub text : List ℕ

abbrev pub written : ℕ → List ℕ → Written
written status text = record { status = status; text = text }

pub record IsExplained (e : Output) (w : Written) : Type 0 where
  pub status : e.status ≡ w.status
  pub text : string_bytes e.text ≡ w.text

-- the exit status, by the first line that doesn't fit, if there is one
abbrev pub explained_by : Option ℕ → List ℕ → Written
explained_by None text = written 0 text
explained_by (Some line) text = written 11 (codes "differs " ++ (decimal line ++ codes "\n"))

-- of a report, with the rules of the stacks written at these places
abbrev pub explained_of : Stacks → Sources → List ℕ → Written
explained_of stacks sources report =
    explained_by (differs stacks (lines_read read_line report))
    (explained_from stacks sources all_shut [] (bare_lines report))

abbrev pub refused_explained : LoadFault → Written
refused_explained fault = written 3 (refused_words fault ++ codes "\n")

-- a file couldn't be read: nothing is written
abbrev pub unread_explained : Written
unread_explained = written 5 []

-- ---- with modelled files: what is written has this property

-- what is written is this; or nothing, if the last access failed when the files were read once more
abbrev pub OrUnread : (Written → Type 0) → Written → VaultState → Type 0
OrUnread P w vault = P w ⊎ (P unread_explained × IsTrue (ends_failing vault))

-- by the result of the load: of its stacks, or its first fault
abbrev pub ExplainsBy : (Written → Type 0) → Result Counts Stop → (RuleType → Stack) → Sources
    → List ℕ → VaultState → Type 0
ExplainsBy P (Ok counts) stack sources report vault =
    OrUnread P (explained_of (stacks_of stack) sources report) vault
ExplainsBy P (Err stop) stack sources report vault = P (refused_explained stop.fault)

-- of a report against a service under a root: the rules are where these files have them
abbrev pub Explains : (Written → Type 0) → VaultState → List ℕ → List ℕ → List ℕ → VaultState
    → Type 0
Explains P old root service report new =
    ExplainsBy P (loaded old root service) (tree (texts_of root old) (directory_exists old root) service)
    (sources_at (texts_of root old) (directory_exists old root) service) report new

-- ---- with any files

-- what is written is the explanation by these stacks, with their rules at some places, and no
-- access failed
pub record IsByStacks (e : Output) (stacks : Stacks) (report : List ℕ) (before now : ℕ) : Type
    0 where
  pub sources : Sources
  pub explained : IsExplained e (explained_of stacks sources report)
  pub no_fault : now ≡ before

-- nothing is written, and an access failed
pub record IsByFailure (e : Output) (before now : ℕ) : Type 0 where
  pub nothing : IsExplained e unread_explained
  pub failed : Rose before now

-- what is written is the fault of a configuration
pub record IsByFault (e : Output) (before now : ℕ) : Type 0 where
  pub fault : LoadFault
  pub refused : IsExplained e (refused_explained fault)
  pub counts : KindCounts fault.kind before now

abbrev pub IsOutputBy : Output → Stacks → List ℕ → ℕ → ℕ → Type 0
IsOutputBy e stacks report before now =
    IsByStacks e stacks report before now ⊎ IsByFailure e before now

abbrev pub IsOutputOf : Output → List ℕ → ℕ → ℕ → Type 0
IsOutputOf e report before now =
    ((stacks : Stacks) × IsOutputBy e stacks report before now) ⊎ IsByFault e before now

-- ---- by the results of its parts

-- if there are no stacks, by the reason; if an allocation failed, nothing is written
abbrev pub IsRefused : Output → Refuse LoadFault → Type 0
IsRefused e (Named fault) = IsExplained e (refused_explained fault)
IsRefused e NoMemory = ⊥

-- depending on whether the places of the rules were found
abbrev pub IsExplainedWith : Output → Stacks → Result Sources (Refuse Failed) → List ℕ → Type 0
IsExplainedWith e stacks (Ok sources) report = IsExplained e (explained_of stacks sources report)
IsExplainedWith e stacks (Err (Named failed)) report = IsExplained e unread_explained
IsExplainedWith e stacks (Err NoMemory) report = ⊥
