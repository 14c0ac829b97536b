use Rattle.env_list.proofs.Texts.{name_before, value_after, name_alone}
use Rattle.env_list.proofs.laws.put_texts.Goals as goal

pub returns-clause-name : goal.returns-clause-name
returns-clause-name c = name_before

pub returns-clause-value : goal.returns-clause-value
returns-clause-value c = value_after

pub returns-clause-deleted : goal.returns-clause-deleted
returns-clause-deleted c = name_alone
