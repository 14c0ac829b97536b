use Rattle.session_audit.specs.Sound.{ArePrintable}
use Rattle.laws_audit.specs.Loaded.{AreLoaded}
use Rattle.laws_audit.proofs.WholeReportFacts.{scripts_fit}
use Rattle.laws_audit.proofs.laws.scripts_fit.Goals as goal

pub returns-clause-printed : goal.returns-clause-printed
returns-clause-printed c = scripts_fit ArePrintable (λ stacks printable. printable)

pub returns-clause-loaded : goal.returns-clause-loaded
returns-clause-loaded c = scripts_fit AreLoaded c.loaded_stacks_are_printable.ensures
