-- What is changed through a reference to the value of a type is that value, and no other.
use Rattle.std.specs.Borrow.{Lends, MutBor, Fml, RattleType}
use Rattle.service_load.specs.ByType.{with_type}
use Rattle.service_load.specs.contracts.by_type.ByType.{the_row}
use Rattle.service_load.specs.declared.by_type.ByType.{ByType}
use Rattle.service_load.specs.declared.rule_type.RuleType.{RuleType}

module _ (T : RattleType) (values : MutBor (ByType T.Denot)) where
  abbrev pub lends_type : RuleType → MutBor T.Denot → Fml
  lends_type type value = Lends (the_row T) T values value (with_type values.now type)
