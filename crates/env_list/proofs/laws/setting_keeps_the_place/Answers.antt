use Rattle.env_list.proofs.Variables.{put_value, put_others, put_names}
use Rattle.env_list.proofs.laws.setting_keeps_the_place.Goals as goal

pub returns-clause-same : goal.returns-clause-same
returns-clause-same c = put_value

pub returns-clause-others : goal.returns-clause-others
returns-clause-others c = put_others

pub returns-clause-place : goal.returns-clause-place
returns-clause-place c = put_names
