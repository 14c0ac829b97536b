use Rattle.laws_audit.proofs.Others.{alone, others_leave}
use Rattle.laws_audit.proofs.Paths.{usual}
use Rattle.laws_audit.proofs.tally_laws.other_modules_leave_tallies.Goals as goal

pub returns-clause-others : goal.returns-clause-others
returns-clause-others c = others_leave

pub returns-clause-usual : goal.returns-clause-usual
returns-clause-usual c = usual

pub returns-clause-alone : goal.returns-clause-alone
returns-clause-alone c = alone
