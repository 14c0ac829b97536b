-- The stacks that a call of `load` gives.
use Rattle.std.proofs.Common.{◌≡◌, ℕ, List, Result, Ok, Err, sym, ◌∙◌}
use Rattle.pam_base.specs.declared.fault.Refuse.{Refuse}
use Rattle.pam_base.specs.declared.fault.Refuse.TheVariants.{NoMemory, Named}
use Rattle.pam_outside.specs.Files.{VaultState}
use Rattle.control_words.specs.Stack.{Stack}
use Rattle.service_load.specs.declared.load_fault.LoadFault.{LoadFault}
use Rattle.service_load.specs.declared.rule_type.RuleType.{RuleType}
use Rattle.service_load.specs.declared.rule_type.RuleType.TheVariants.{Auth, Account, Password, Session}
use Rattle.service_load.specs.Trees.{Trees}
use Rattle.service_load.specs.Load.{AreTrees, Loads}
use Rattle.service_print.specs.Printed.{stacks_in}
use Rattle.service_print.specs.Reload.{LoadsTo, Gives}

stacks_are : (trees : Trees) (stack : RuleType → Stack) → AreTrees trees stack → (type : RuleType) → stacks_in trees type ≡ stack type
stacks_are trees stack are Auth = are.auth
stacks_are trees stack are Account = are.account
stacks_are trees stack are Password = are.password
stacks_are trees stack are Session = are.session

pub load_gives : (trees : Trees) (old new : VaultState) (root service : List ℕ) → Loads (Ok trees) old new root service
    → LoadsTo old root service (stacks_in trees)
load_gives trees old new root service is = record { counts = is.counts; no_fault = is.no_fault; stacks = λ type. sym (stacks_are trees _ is.trees_are type) }

pub gives_load : (result : Result Trees (Refuse LoadFault)) (old new : VaultState) (root service : List ℕ) (stack : RuleType → Stack)
    → LoadsTo old root service stack → Loads result old new root service → Gives result stack
gives_load (Ok trees) old new root service stack to is = λ type. stacks_are trees _ is.trees_are type ∙ to.stacks type
gives_load (Err (Named fault)) old new root service stack to is = let looked = to.no_fault in absurd cc
gives_load (Err NoMemory) old new root service stack to is = tt
