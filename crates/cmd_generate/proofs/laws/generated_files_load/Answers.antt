use Rattle.cmd_generate.proofs.Written.{all_written, loads_all}
use Rattle.cmd_generate.proofs.laws.generated_files_load.Goals as goal

pub returns-clause-files : goal.returns-clause-files
returns-clause-files c = loads_all

pub returns-clause-generation : goal.returns-clause-generation
returns-clause-generation c = all_written
