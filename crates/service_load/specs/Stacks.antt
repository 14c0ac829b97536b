-- The four stacks of a service (pam.conf(5)).
use Rattle.control_words.specs.Stack.{Stack}
use Rattle.service_load.specs.declared.rule_type.RuleType.{RuleType}
use Rattle.service_load.specs.declared.rule_type.RuleType.TheVariants.{Auth, Account, Password, Session}

-- the stacks of a service, one for each type of rule (pam.conf(5))
pub record Stacks : Type 0 where
  pub auth : Stack
  pub account : Stack
  pub password : Stack
  pub session : Stack

abbrev pub stacks_of : (RuleType → Stack) → Stacks
stacks_of stack = record {
  auth = stack Auth;
  account = stack Account;
  password = stack Password;
  session = stack Session;
}

-- the stacks with this one for a type
abbrev pub with_stack : Stacks → RuleType → Stack → Stacks
with_stack stacks Auth stack = record stacks { auth = stack }
with_stack stacks Account stack = record stacks { account = stack }
with_stack stacks Password stack = record stacks { password = stack }
with_stack stacks Session stack = record stacks { session = stack }
