-- Who gets in, by the files of a service and the table of modules: what `ways` writes, and its exit
-- status (this project's own).
use Rattle.std.specs.Prelude.{◌≡◌, ◌⊎◌, ℕ, List, [], ◌++◌, codes, string_bytes, IsTrue}
use Rattle.std.specs.Prelude.{Result, Ok, Err}
use Rattle.pam_base.specs.declared.fault.Failed.{Failed}
use Rattle.pam_base.specs.declared.fault.Refuse.{Refuse}
use Rattle.pam_base.specs.declared.fault.Refuse.TheVariants.{NoMemory, Named}
use Rattle.pam_base.specs.Quote.{quoted_text}
use Rattle.pam_outside.specs.Counts.{Rose}
use Rattle.pam_outside.specs.Files.{VaultState}
use Rattle.explain_lines.specs.control_words.specs.Stack.{Stack}
use Rattle.service_load.specs.declared.load_fault.LoadFault.{LoadFault}
use Rattle.service_load.specs.declared.rule_type.RuleType.{RuleType}
use Rattle.service_load.specs.FirstFault.{Counts, Stop}
use Rattle.service_load.specs.Kinds.{KindCounts}
use Rattle.service_load.specs.Load.{loaded, directory_exists}
use Rattle.service_load.specs.Loading.{texts_of}
use Rattle.service_load.specs.Stacks.{Stacks, stacks_of}
use Rattle.service_load.specs.Tree.{tree}
use Rattle.report_lines.specs.Line.{refused_words}
use Rattle.explain_origins.specs.Placed.{sources_at}
use Rattle.explain_origins.specs.Reading.{ends_failing}
use Rattle.explain_lines.specs.Origins.{Sources}
use Rattle.module_table.specs.declared.entry.Entry.{Entry}
use Rattle.module_table.specs.declared.table.TableFault.{TableFault}
use Rattle.module_table.specs.declared.table.TableFault.TheVariants as faults
use Rattle.module_table.specs.Entries.{table_of}
use Rattle.ways_lines.specs.Service.{ShowsService}
use Rattle.ways.specs.declared.saying.Output.{Output}

-- an exit status and what is written
pub record Written : Type 0 where
  pub status : ℕ
  pub text : List ℕ

abbrev pub written : ℕ → List ℕ → Written
written status text = record { status = status; text = text }

pub record IsWritten (e : Output) (w : Written) : Type 0 where
  pub status : e.status ≡ w.status
  pub text : string_bytes e.text ≡ w.text

-- the first line of the table that isn't an entry
abbrev pub malformed_written : List ℕ → Written
malformed_written line = written 13 (codes "table\t" ++ (quoted_text line ++ codes "\n"))

-- what may be written of a service with these stacks, if its rules are written at these places: the
-- rules, and the ways of each stack; or which line of the table isn't an entry
abbrev pub TellsBy : Result (List Entry) (List ℕ) → List ℕ → Stacks → Sources → Written → Type 0
TellsBy (Ok table) service stacks sources w =
    (w.status ≡ 0) × ShowsService service stacks sources table [] w.text
TellsBy (Err line) service stacks sources w = w ≡ malformed_written line

abbrev pub Tells : List ℕ → Stacks → Sources → List ℕ → Written → Type 0
Tells service stacks sources text w = TellsBy (table_of text) service stacks sources w

-- of what may be written, one has this property
pub record One (P Q : Written → Type 0) : Type 0 where
  pub one : Written
  pub may : Q one
  pub holds : P one

abbrev pub refused_written : LoadFault → Written
refused_written fault = written 3 (refused_words fault ++ codes "\n")

-- a file couldn't be read: nothing is written
abbrev pub unread_written : Written
unread_written = written 5 []

-- ---- with modelled files: what is written has this property

-- what is written is one of these; or nothing, if the last access failed when the files were read
-- once more
abbrev pub OrUnread : (Written → Type 0) → (Written → Type 0) → VaultState → Type 0
OrUnread P Q vault = One P Q ⊎ (P unread_written × IsTrue (ends_failing vault))

-- by the result of the load: of its stacks, or its first fault
abbrev pub SaysBy : (Written → Type 0) → Result Counts Stop → List ℕ → (RuleType → Stack) → Sources
    → List ℕ → VaultState → Type 0
SaysBy P (Ok counts) service stack sources text vault =
    OrUnread P (Tells service (stacks_of stack) sources text) vault
SaysBy P (Err stop) service stack sources text vault = P (refused_written stop.fault)

-- of a service under a root, with this text as the table: the rules are where these files have them
abbrev pub Says : (Written → Type 0) → VaultState → List ℕ → List ℕ → List ℕ → VaultState → Type 0
Says P old root service text new =
    SaysBy P (loaded old root service) service
    (tree (texts_of root old) (directory_exists old root) service)
    (sources_at (texts_of root old) (directory_exists old root) service) text new

-- ---- with any files

-- what is written is that of these stacks, with their rules at some places, and no access failed
pub record IsByStacks (e : Output) (service : List ℕ) (stacks : Stacks) (text : List ℕ)
    (before now : ℕ) : Type 0 where
  pub sources : Sources
  pub said : One (λ w. IsWritten e w) (Tells service stacks sources text)
  pub no_fault : now ≡ before

-- nothing is written, and an access failed
pub record IsByFailure (e : Output) (before now : ℕ) : Type 0 where
  pub nothing : IsWritten e unread_written
  pub failed : Rose before now

-- what is written is the fault of a configuration
pub record IsByFault (e : Output) (before now : ℕ) : Type 0 where
  pub fault : LoadFault
  pub refused : IsWritten e (refused_written fault)
  pub counts : KindCounts fault.kind before now

abbrev pub IsOutputBy : Output → List ℕ → Stacks → List ℕ → ℕ → ℕ → Type 0
IsOutputBy e service stacks text before now =
    IsByStacks e service stacks text before now ⊎ IsByFailure e before now

abbrev pub IsOutputOf : Output → List ℕ → List ℕ → ℕ → ℕ → Type 0
IsOutputOf e service text before now =
    ((stacks : Stacks) × IsOutputBy e service stacks text before now) ⊎ IsByFault e before now

-- ---- by the results of its parts

-- if there are no stacks, by the reason; if an allocation failed, nothing is written
abbrev pub IsRefused : Output → Refuse LoadFault → Type 0
IsRefused e (Named fault) = IsWritten e (refused_written fault)
IsRefused e NoMemory = ⊥

-- if there is no table
abbrev pub IsWithoutTable : Output → TableFault → Type 0
IsWithoutTable e (faults.Malformed line) = IsWritten e (malformed_written line.now)
IsWithoutTable e faults.NoMemory = ⊥

-- depending on whether the places of the rules were found
abbrev pub IsSaidWith : Output → List ℕ → Stacks → Result Sources (Refuse Failed) → List ℕ → Type 0
IsSaidWith e service stacks (Ok sources) text =
    One (λ w. IsWritten e w) (Tells service stacks sources text)
IsSaidWith e service stacks (Err (Named failed)) text = IsWritten e unread_written
IsSaidWith e service stacks (Err NoMemory) text = ⊥
