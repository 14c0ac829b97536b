use Rattle.laws_audit.proofs.ModuleNameFacts.{put_of_bytes}
use Rattle.laws_audit.proofs.laws.set_files_are_of_bytes.Goals as goal

pub returns : goal.returns
returns c = put_of_bytes
