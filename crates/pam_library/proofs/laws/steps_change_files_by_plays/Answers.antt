use Rattle.pam_library.proofs.FileChangeFacts.{step_asks, step_leads, step_visits, together}
use Rattle.pam_library.proofs.ModuleTimeFacts.{step_at}
use Rattle.pam_library.proofs.laws.steps_change_files_by_plays.Goals as goal

pub returns-clause-asks : goal.returns-clause-asks
returns-clause-asks c = step_asks c.ends_leave_it.ensures

pub returns-clause-visits : goal.returns-clause-visits
returns-clause-visits c = step_visits

pub returns-clause-moments : goal.returns-clause-moments
returns-clause-moments c = step_at

pub returns-clause-step : goal.returns-clause-step
returns-clause-step c = step_leads

pub returns-clause-together : goal.returns-clause-together
returns-clause-together c = together
