use Rattle.session_audit.specs.Sound.{ArePrintable}
use Rattle.laws_audit.specs.Loaded.{AreLoaded}
use Rattle.laws_audit.proofs.WholeReportFacts.{runs_fit}
use Rattle.laws_audit.proofs.laws.runs_fit.Goals as goal

pub returns-clause-printed : goal.returns-clause-printed
returns-clause-printed c = runs_fit ArePrintable (λ stacks printable. printable)

pub returns-clause-loaded : goal.returns-clause-loaded
returns-clause-loaded c = runs_fit AreLoaded c.loaded_stacks_are_printable.ensures
