-- What the parts of a load give (this project's own).
use Rattle.std.specs.Prelude.{◌≡◌, ℕ, ◌+◌, ◌-◌, ◌≤◌, ◌<◌, Bool, true, false, List, [], Option, Some, None, Result, Ok, Err, OnOk, IfOk}
use Rattle.pam_base.specs.declared.fault.Refuse.{Refuse}
use Rattle.pam_base.specs.declared.fault.Refuse.TheVariants.{NoMemory, Named}
use Rattle.pam_base.specs.declared.fault.FaultKind.TheVariants.{TooManyLines, ReadFailed}
use Rattle.pam_outside.specs.Files.{VaultState}
use Rattle.control_words.specs.conf_lex.specs.declared.token.LexFault.{LexFault}
use Rattle.control_words.specs.Stack.{Stack, none, line, sub, joined, lines_in, depth, stack_of}
use Rattle.control_words.specs.declared.nodes.Nodes.{Nodes}
use Rattle.control_words.specs.declared.nodes.Rule.{Rule}
use Rattle.service_load.specs.declared.entry.RuleContent.{RuleContent}
use Rattle.service_load.specs.declared.entry.RuleContent.TheVariants.{Line, Include, Substack}
use Rattle.service_load.specs.declared.entry.ConfigEntry.{ConfigEntry}
use Rattle.service_load.specs.declared.inclusion.Inclusion.{Inclusion}
use Rattle.service_load.specs.declared.load_fault.LoadFault.{LoadFault}
use Rattle.service_load.specs.declared.loader.Loader.{Loader}
use Rattle.service_load.specs.declared.rule_file.RuleFile.{RuleFile}
use Rattle.service_load.specs.declared.rule_type.RuleType.{RuleType}
use Rattle.std.specs.Option.{is_none}
use Rattle.service_load.specs.Files.{plain_file, held, is_absent}
use Rattle.service_load.specs.FirstFault.{Counts, Stop, fault_at, look}
use Rattle.service_load.specs.Kinds.{KindCounts}
use Rattle.service_load.specs.Names.{texts_under}
use Rattle.service_load.specs.declared.opener.Opener.{Opener as Because}
use Rattle.service_load.specs.declared.opener.Opener.TheVariants as openers
use Rattle.service_load.specs.Order.{Item, Opener, as_service, as_other, as_last, by_rule, entry_items, items, items_of, tree_items}
use Rattle.service_load.specs.Tree.{serves, entry_nodes, nodes, nodes_of, tree_from}

-- the texts of the modelled files below a root
abbrev pub texts_of : List ℕ → VaultState → List ℕ → Option (List ℕ)
texts_of root vault = texts_under root vault.files

-- why a file is opened
abbrev pub opener_of : Because → Opener
opener_of openers.Service = as_service
opener_of openers.Other = as_other
opener_of (openers.Last service) = as_last service.now
opener_of (openers.Rule name number) = by_rule name.now number

-- the counts of a load over modelled files
abbrev pub counts_of : Loader → VaultState → Counts
counts_of loader vault = record {
  calls = vault.calls;
  openings = loader.openings;
  lines = loader.lines;
}

-- what a load has at a time: its own state, and what the files hold
pub record LoadState : Type 0 where
  pub loader : Loader
  pub files : VaultState

abbrev pub load_state : Loader → VaultState → LoadState
load_state loader files = record { loader = loader; files = files }

-- unless memory ran out, a check ends with these counts, or at this fault
abbrev pub Looks : {A : Type 0} → Result A (Refuse LoadFault) → Result Counts Stop → Counts → Type 0
Looks (Ok x) looked now = looked ≡ Ok now
Looks (Err (Named f)) looked now = looked ≡ Err (record { fault = f; calls = now.calls })
Looks (Err NoMemory) looked now = Unit {0}

-- of modelled files only the number of accesses has changed
abbrev pub OnlyCalls : VaultState → VaultState → Type 0
OnlyCalls old new = new ≡ record old { calls = new.calls }

-- the content of an opened file, depending on whether the access is set to fail
abbrev pub opened_answer : {A : Type 0} → Bool → List ℕ → Result A LexFault → Result A LoadFault
opened_answer true name found = Err (fault_at name 0 ReadFailed)
opened_answer false name (Ok x) = Ok x
opened_answer false name (Err fault) = Err (fault_at name fault.line fault.kind)

-- a fact that holds with every result except NoMemory
abbrev pub IfCalled : {A F : Type 0} → Result A (Refuse F) → Type 0 → Type 0
IfCalled (Err NoMemory) fact = Unit {0}
IfCalled result fact = fact

-- it stays as it was with Ok, and if an allocation failed: that hides no fault
abbrev pub CountsFaults : {A : Type 0} → Result A (Refuse LoadFault) → ℕ → ℕ → Type 0
CountsFaults (Ok x) before now = now ≡ before
CountsFaults (Err (Named f)) before now = KindCounts f.kind before now
CountsFaults (Err NoMemory) before now = now ≡ before

-- a line was added to a stack, or is one too many
abbrev pub AddsLine : {A : Type 0} → Result A (Refuse LoadFault) → Loader → Loader → Stack → Stack
    → List ℕ → ℕ → Rule → Type 0
AddsLine (Ok x) was is before after name number rule = (was.lines < 4096)
    × (is ≡ record was { lines = was.lines + 1 }) × (after ≡ joined before (line rule none))
AddsLine (Err (Named f)) was is before after name number rule = (4096 ≤ was.lines) × (is ≡ was)
    × (f ≡ fault_at name number TooManyLines)
AddsLine (Err NoMemory) was is before after name number rule = Unit {0}

-- an entry was processed, which is for the type or isn't: its line was added, or it gives the file
-- that it includes
abbrev pub TakesContent : Bool → RuleContent → Result (Option Inclusion) (Refuse LoadFault) → Loader
    → Loader → Stack → Stack → List ℕ → ℕ → Type 0
TakesContent false content result was is before after name number = (result ≡ Ok None) × (is ≡ was)
    × (after ≡ before)
TakesContent true (Line rule) result was is before after name number =
    AddsLine result was is before after name number rule × IfOk result (λ left. left ≡ None)
TakesContent true (Include file) result was is before after name number =
    (result ≡ Ok (Some (record { line = number; file = plain_file file; as_substack = false })))
    × (is ≡ was) × (after ≡ before)
TakesContent true (Substack file) result was is before after name number =
    (result ≡ Ok (Some (record { line = number; file = plain_file file; as_substack = true })))
    × (is ≡ was) × (after ≡ before)

abbrev pub TakesEntry : Result (Option Inclusion) (Refuse LoadFault) → Loader → Loader → Stack
    → Stack → RuleType → List ℕ → ConfigEntry → Type 0
TakesEntry result was is before after type name entry =
    TakesContent (serves type entry.rule_type) entry.content result was is before after name
    entry.line

-- the nodes of a file as they are added: as a substack of them, or directly
abbrev pub brought_in : Bool → Stack → Stack
brought_in true inner = sub inner none
brought_in false inner = inner

module _ (texts : List ℕ → Option (List ℕ)) where
  -- what a file that is opened at this level adds: what a load meets, and its nodes
  abbrev pub items_at : ℕ → RuleType → Opener → RuleFile → List Item
  items_at level type opener file = items texts (17 - level) type opener file

  abbrev pub nodes_at : ℕ → RuleType → RuleFile → Stack
  nodes_at level type file = nodes texts (17 - level) type file

  -- what an entry of the file with this name adds, at this level
  abbrev pub entry_items_at : ℕ → RuleType → List ℕ → ConfigEntry → List Item
  entry_items_at level type name entry = entry_items (items_at (level + 1) type) type name entry

  abbrev pub entry_nodes_at : ℕ → RuleType → ConfigEntry → Stack
  entry_nodes_at level type entry =
      entry_nodes (λ name. nodes_at (level + 1) type (plain_file name)) type entry

  -- what the entries of a file at this level add
  abbrev pub entries_items : ℕ → RuleType → List ℕ → List ConfigEntry → List Item
  entries_items level type name entries = items_of (items_at (level + 1) type) type name entries

  abbrev pub entries_nodes : ℕ → RuleType → List ConfigEntry → Stack
  entries_nodes level type entries =
      nodes_of (λ name. nodes_at (level + 1) type (plain_file name)) type entries

  -- what is left of a file once it was opened at this level: what its entries add; an absent one
  -- adds nothing
  abbrev pub left_items : ℕ → RuleType → RuleFile → Option (List ConfigEntry) → List Item
  left_items level type file None = []
  left_items level type file (Some entries) = entries_items level type file.name entries

  abbrev pub left_nodes : ℕ → RuleType → Option (List ConfigEntry) → Stack
  left_nodes level type None = none
  left_nodes level type (Some entries) = entries_nodes level type entries

  -- unless memory ran out, a file was opened, with the fault of that or with what it then adds
  abbrev pub Opens : Result (Option (List ConfigEntry)) (Refuse LoadFault) → List ℕ → Counts → Counts → ℕ
      → RuleType → Opener → RuleFile → Type 0
  Opens (Ok entries) fails was is level type opener file =
      (look texts fails was (items_at level type opener file)
      ≡ look texts fails is (left_items level type file entries))
      × (nodes_at level type file ≡ left_nodes level type entries)
      × (is_absent (held texts file) ≡ is_none entries)
  Opens (Err (Named f)) fails was is level type opener file =
      look texts fails was (items_at level type opener file)
      ≡ Err (record { fault = f; calls = is.calls })
  Opens (Err NoMemory) fails was is level type opener file = Unit {0}

-- over modelled files, a part of a load processed these items and added these nodes
pub record Brings {A : Type 0} (result : Result A (Refuse LoadFault))
    (texts : List ℕ → Option (List ℕ)) (old new : LoadState) (items : List Item)
    (before after added : Stack) : Type 0 where
  pub looks : Looks result (look texts old.files.fails (counts_of old.loader old.files) items)
      (counts_of new.loader new.files)
  pub nodes : OnOk result (after ≡ joined before added)
  pub stays : OnlyCalls old.files new.files

-- with real files too, the lines that a file at this level adds are counted, are within the limit,
-- and are nested no deeper than the levels left up to 16
pub record Grows (level : ℕ) (was is : Loader) (before after : Stack) : Type 0 where
  pub within : level ≤ 16
  pub lines : lines_in after + was.lines ≡ lines_in before + is.lines
  pub few : was.lines ≤ 4096 → is.lines ≤ 4096
  pub deep : (n : ℕ) → depth before ≤ n → 16 ≤ level + n → depth after ≤ n

-- over modelled files, a stack was made from its items
pub record Makes (result : Result Nodes (Refuse LoadFault)) (texts : List ℕ → Option (List ℕ))
    (old new : LoadState) (own other : RuleFile) (type : RuleType) : Type 0 where
  pub looks : Looks result (look texts old.files.fails (counts_of old.loader old.files)
      (tree_items texts own other type)) (counts_of new.loader new.files)
  pub made : IfOk result (λ made. stack_of made.vec.items ≡ tree_from texts own other type)
  pub stays : OnlyCalls old.files new.files

-- with real files too, a stack has at most 4,096 lines, and substacks nested at most 16 deep
pub record IsBounded (stack : Stack) : Type 0 where
  pub lines : lines_in stack ≤ 4096
  pub deep : depth stack ≤ 16
