use Rattle.env_list.proofs.Variables.{deleted_value, deleted_others, deletion_closes}
use Rattle.env_list.proofs.laws.deleting_closes_up.Goals as goal

pub returns-clause-same : goal.returns-clause-same
returns-clause-same c = deleted_value

pub returns-clause-others : goal.returns-clause-others
returns-clause-others c = deleted_others

pub returns-clause-closes : goal.returns-clause-closes
returns-clause-closes c = deletion_closes
