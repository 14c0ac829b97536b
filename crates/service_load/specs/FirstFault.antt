-- The first fault of a configuration (this project's own): the order in which a load proceeds is
-- followed, with the counts so far.
use Rattle.std.specs.Prelude.{ℕ, ◌+◌, List, [], ◌∷◌, Option, Result, Ok, Err, nat_lt, nat_le, if◌then◌else◌}
use Rattle.pam_base.specs.declared.fault.FaultKind.{FaultKind}
use Rattle.pam_base.specs.declared.fault.FaultKind.TheVariants.{IncludeAbsent, TooDeep, TooManyLines, TooManyFiles, NoService, ReadFailed}
use Rattle.pam_outside.specs.Counts.{next_count, fails_next}
use Rattle.service_load.specs.declared.entry.ConfigEntry.{ConfigEntry}
use Rattle.service_load.specs.declared.load_fault.LoadFault.{LoadFault}
use Rattle.service_load.specs.declared.rule_file.RuleFile.{RuleFile}
use Rattle.service_load.specs.Entry.{entry_of}
use Rattle.service_load.specs.Files.{FileContent, absent, faulty, holds, held, is_in_directory}
use Rattle.service_load.specs.Order.{Opener, as_service, as_other, as_last, by_rule, Item, begin, opening, checked, made}

abbrev pub fault_at : List ℕ → ℕ → FaultKind → LoadFault
fault_at file line kind = record { file = file; line = line; kind = kind }

-- the counts so far: the file accesses, the openings of this load, and the lines of this stack
pub record Counts : Type 0 where
  pub calls : ℕ
  pub openings : ℕ
  pub lines : ℕ

-- a fault, and the file accesses up to it
pub record Stop : Type 0 where
  pub fault : LoadFault
  pub calls : ℕ

abbrev pub stop : Counts → List ℕ → ℕ → FaultKind → Result Counts Stop
stop counts file line kind = Err (record { fault = fault_at file line kind; calls = counts.calls })

-- the fault of an opening that isn't made is at the including rule, or at the file itself
abbrev pub opening_fault : List ℕ → Opener → FaultKind → LoadFault
opening_fault file (by_rule name line) kind = fault_at name line kind
opening_fault file opener kind = fault_at file 0 kind

abbrev pub refused_opening : Counts → RuleFile → Opener → FaultKind → Result Counts Stop
refused_opening counts file opener kind =
    Err (record { fault = opening_fault file.name opener kind; calls = counts.calls })

-- an absent file: one that a rule includes, and `other` if the service doesn't exist either
abbrev pub absent_file : Counts → Opener → Result Counts Stop
absent_file counts as_service = Ok counts
absent_file counts as_other = Ok counts
absent_file counts (as_last service) = stop counts service 0 NoService
absent_file counts (by_rule name line) = stop counts name line IncludeAbsent

-- the result of reading the file, and the faults of the text
abbrev pub held_file : Counts → RuleFile → Opener → FileContent → Result Counts Stop
held_file counts file opener absent = absent_file counts opener
held_file counts file opener (faulty fault) = stop counts file.name fault.line fault.kind
held_file counts file opener (holds rules) = Ok counts

-- one more file access, and one more opening
abbrev pub asked : Counts → Counts
asked counts = record {
  calls = next_count counts.calls;
  openings = counts.openings + 1;
  lines = counts.lines;
}

abbrev pub checked_rule : Counts → List ℕ → ℕ → Result ConfigEntry FaultKind → Result Counts Stop
checked_rule counts name line (Ok entry) = Ok counts
checked_rule counts name line (Err kind) = stop counts name line kind

-- the result from these counts on, or the fault that came before
abbrev pub going_on : Result Counts Stop → (Counts → Result Counts Stop) → Result Counts Stop
going_on (Ok counts) more = more counts
going_on (Err s) more = Err s

module _ (texts : List ℕ → Option (List ℕ)) (fails : List ℕ) where
  -- the causes for one opening, in their order: the level, the number of openings, and the result
  -- of reading the file
  abbrev pub opened : Counts → RuleFile → ℕ → Opener → Result Counts Stop
  opened counts file level opener =
      if nat_lt 16 level then refused_opening counts file opener TooDeep
      else if nat_le 256 counts.openings then refused_opening counts file opener TooManyFiles
      else if fails_next counts.calls fails then stop (asked counts) file.name 0 ReadFailed
      else held_file (asked counts) file opener (held texts file)

  -- the counts after an item, or its fault
  abbrev pub take_one : Counts → Item → Result Counts Stop
  take_one counts begin = Ok (record counts { lines = 0 })
  take_one counts (opening file level opener) = opened counts file level opener
  take_one counts (checked file rule) =
      checked_rule counts file.name rule.line (entry_of (is_in_directory file) rule)
  take_one counts (made name line) = if nat_le 4096 counts.lines
      then stop counts name line TooManyLines else Ok (record counts { lines = counts.lines + 1 })

  -- the counts after some items, or the first fault among them
  unfoldable pub look : Counts → List Item → Result Counts Stop
  look counts [] = Ok counts
  look counts (i ∷ is) = going_on (take_one counts i) (λ c. look c is)
