use Rattle.std.proofs.Common.{refl}
use Rattle.cmd_check.proofs.CheckedConfigFacts.{configured}
use Rattle.cmd_check.proofs.finding.find.Goals as goal

pub returns-in_ok-configuration-in-Ok-clause-told : goal.returns-in_ok-configuration-in-Ok-clause-told
returns-in_ok-configuration-in-Ok-clause-told g c tells =
    configured c.in-Ok.trees _ _ _ _ _ (c.in-Ok.ensures.told tells) refl c.in_ok-configuration-in-Ok.ensures
