use Rattle.cmd_generate.proofs.GeneratedRuleFacts.{holds_file, holds_service}
use Rattle.cmd_generate.proofs.laws.generated_files_are_read.Goals as goal

pub returns-clause-files : goal.returns-clause-files
returns-clause-files c = holds_file

pub returns-clause-service : goal.returns-clause-service
returns-clause-service c = holds_service
