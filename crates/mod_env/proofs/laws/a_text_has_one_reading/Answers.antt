use Rattle.mod_env.proofs.SpelledVariableFacts.{conf_is_one, conf_is_read}
use Rattle.mod_env.proofs.Spelled.{conf_is_spelled}
use Rattle.mod_env.proofs.laws.a_text_has_one_reading.Goals as goal

pub returns-clause-read : goal.returns-clause-read
returns-clause-read c = conf_is_read

pub returns-clause-one : goal.returns-clause-one
returns-clause-one c = λ entries others text spelled also. conf_is_one entries others text spelled also

pub returns-clause-spelled : goal.returns-clause-spelled
returns-clause-spelled c = conf_is_spelled
