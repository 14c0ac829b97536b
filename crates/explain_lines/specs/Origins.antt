-- Where the rules of a service's stacks are written (this project's own).
use Rattle.std.specs.Prelude.{List}
use Rattle.service_load.specs.ByType.{at_type}
use Rattle.service_load.specs.declared.by_type.ByType.{ByType}
use Rattle.service_load.specs.declared.rule_type.RuleType.{RuleType}
use Rattle.explain_lines.specs.declared.origin.Origin.{Origin}

abbrev pub Sources : Type 0
Sources = ByType (List Origin)

-- the origins of the rules of a type
abbrev pub origins_in : Sources → RuleType → List Origin
origins_in sources type = at_type sources type
