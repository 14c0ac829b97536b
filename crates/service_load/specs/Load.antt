-- The load of a service (pam.conf(5), pam.d(5)): its four stacks, or the first fault of its configuration.
use Rattle.std.specs.Prelude.{◌≡◌, ℕ, Bool, List, Option, Some, None, Result, Ok, Err, if◌then◌else◌}
use Rattle.pam_base.specs.declared.fault.Refuse.{Refuse}
use Rattle.pam_base.specs.declared.fault.Refuse.TheVariants.{NoMemory, Named}
use Rattle.pam_base.specs.declared.fault.FaultKind.TheVariants.{ReadFailed}
use Rattle.pam_outside.specs.Counts.{next_count}
use Rattle.pam_outside.specs.Files.{VaultState, is_failing, is_directory}
use Rattle.control_words.specs.Stack.{Stack, stack_of}
use Rattle.service_load.specs.declared.load_fault.LoadFault.{LoadFault}
use Rattle.service_load.specs.declared.rule_type.RuleType.{RuleType}
use Rattle.service_load.specs.declared.rule_type.RuleType.TheVariants.{Auth, Account, Password, Session}
use Rattle.service_load.specs.Trees.{Trees}
use Rattle.service_load.specs.Entry.{directory_name}
use Rattle.service_load.specs.FirstFault.{Counts, Stop, fault_at, look}
use Rattle.service_load.specs.Loading.{texts_of, IsBounded}
use Rattle.pam_outside.specs.Paths.{path_of}
use Rattle.service_load.specs.Order.{order}
use Rattle.service_load.specs.Tree.{tree}

-- whether the directory of the service files exists
abbrev pub directory_exists : VaultState → List ℕ → Bool
directory_exists vault root = is_directory (path_of root directory_name) vault.files

-- the result for a service, once it is known whether the directory exists, by the file accesses so
-- far
abbrev pub loaded_from : Bool → VaultState → List ℕ → List ℕ → ℕ → Result Counts Stop
loaded_from in_directory vault root service calls =
    look (texts_of root vault) vault.fails (record { calls = calls; openings = 0; lines = 0 })
    (order (texts_of root vault) in_directory service)

-- the result for a service: it is asked whether the directory exists, and then everything is
-- checked in order; the counts after it, or the first fault, with the file accesses up to it
abbrev pub loaded : VaultState → List ℕ → List ℕ → Result Counts Stop
loaded vault root service =
    if is_failing vault then Err (record {
      fault = fault_at directory_name 0 ReadFailed;
      calls = next_count vault.calls;
    })
    else loaded_from (directory_exists vault root) vault root service (next_count vault.calls)

-- the first fault, if there is one
abbrev pub first_fault : VaultState → List ℕ → List ℕ → Option LoadFault
first_fault vault root service = elim (loaded vault root service) [
  | Ok counts ↦ None
  | Err s ↦ Some s.fault
]

-- these are the stacks of the four types
pub record AreTrees (trees : Trees) (stack : RuleType → Stack) : Type 0 where
  pub auth : stack_of trees.auth.vec.items ≡ stack Auth
  pub account : stack_of trees.account.vec.items ≡ stack Account
  pub password : stack_of trees.password.vec.items ≡ stack Password
  pub session : stack_of trees.session.vec.items ≡ stack Session

-- each of the four stacks is bounded
pub record AreBounded (trees : Trees) : Type 0 where
  pub auth : IsBounded (stack_of trees.auth.vec.items)
  pub account : IsBounded (stack_of trees.account.vec.items)
  pub password : IsBounded (stack_of trees.password.vec.items)
  pub session : IsBounded (stack_of trees.session.vec.items)

-- the four stacks of a service that has no fault, with the file accesses that were counted
pub record LoadsTrees (trees : Trees) (looked : Result Counts Stop) (new : VaultState)
    (stack : RuleType → Stack) : Type 0 where
  pub counts : Counts
  pub no_fault : looked ≡ Ok counts
  pub calls : new.calls ≡ counts.calls
  pub trees_are : AreTrees trees stack

-- the stacks if there is no fault, else the first fault; an allocation may fail
abbrev pub LoadsBy : Result Trees (Refuse LoadFault) → Result Counts Stop → VaultState
    → (RuleType → Stack) → Type 0
LoadsBy (Ok trees) looked new stack = LoadsTrees trees looked new stack
LoadsBy (Err (Named fault)) looked new stack =
    looked ≡ Err (record { fault = fault; calls = new.calls })
LoadsBy (Err NoMemory) looked new stack = Unit {0}

-- once it is known whether the directory exists
abbrev pub LoadsFrom : Result Trees (Refuse LoadFault) → Bool → VaultState → VaultState → List ℕ
    → List ℕ → Type 0
LoadsFrom result in_directory old new root service =
    LoadsBy result (loaded_from in_directory old root service old.calls) new
    (tree (texts_of root old) in_directory service)

-- the load of a service
abbrev pub Loads : Result Trees (Refuse LoadFault) → VaultState → VaultState → List ℕ → List ℕ
    → Type 0
Loads result old new root service =
    LoadsBy result (loaded old root service) new
    (tree (texts_of root old) (directory_exists old root) service)
