-- The text of a service (this project's own): its four stacks, each with its ways.
use Rattle.std.specs.Prelude.{◌≡◌, ℕ, List, ◌++◌, codes}
use Rattle.service_load.specs.Stacks.{Stacks}
use Rattle.service_load.specs.declared.rule_type.RuleType.TheVariants.{Auth, Account, Password}
use Rattle.service_load.specs.declared.rule_type.RuleType.TheVariants.{Session}
use Rattle.explain_lines.specs.Origins.{Sources}
use Rattle.module_table.specs.declared.entry.Entry.{Entry}
use Rattle.ways_lines.specs.Fields.{field}
use Rattle.ways_lines.specs.Told.{ShowsStack}

unfoldable pub service_head : List ℕ → List ℕ
service_head service = codes "service" ++ (field service ++ codes "\n")

-- the lines of a service's four stacks were added one after another
pub record ShowsService (service : List ℕ) (stacks : Stacks) (sources : Sources)
    (table : List Entry) (old new : List ℕ) : Type 0 where
  pub with_head : List ℕ
  pub with_auth : List ℕ
  pub with_account : List ℕ
  pub with_password : List ℕ
  pub head : with_head ≡ old ++ service_head service
  pub auth : ShowsStack Auth sources.auth table stacks.auth with_head with_auth
  pub account : ShowsStack Account sources.account table stacks.account with_auth with_account
  pub password : ShowsStack Password sources.password table stacks.password
      with_account with_password
  pub session : ShowsStack Session sources.session table stacks.session with_password new
