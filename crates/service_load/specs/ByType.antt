-- One value for each type of rule (pam.conf(5)).
use Rattle.service_load.specs.declared.by_type.ByType.{ByType}
use Rattle.service_load.specs.declared.rule_type.RuleType.{RuleType}
use Rattle.service_load.specs.declared.rule_type.RuleType.TheVariants.{Auth, Account, Password, Session}

-- the value of a type
abbrev pub at_type : {A : Type 0} → ByType A → RuleType → A
at_type values Auth = values.auth
at_type values Account = values.account
at_type values Password = values.password
at_type values Session = values.session

-- the values with this one for a type
abbrev pub with_type : {A : Type 0} → ByType A → RuleType → A → ByType A
with_type values Auth value = record values { auth = value }
with_type values Account value = record values { account = value }
with_type values Password value = record values { password = value }
with_type values Session value = record values { session = value }
