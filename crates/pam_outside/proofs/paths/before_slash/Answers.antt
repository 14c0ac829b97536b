use Rattle.pam_outside.proofs.Roots.{cut_slash, no_slash}
use Rattle.pam_outside.proofs.paths.before_slash.Goals as goal

pub returns-in-Some-clause-same : goal.returns-in-Some-clause-same
returns-in-Some-clause-same c = cut_slash _ _ c.in-Some.ensures.cases.0 c.in-Some.ensures.cases.1

pub returns-in-None-clause-none : goal.returns-in-None-clause-none
returns-in-None-clause-none c = no_slash _ c.in-None.ensures.cases
