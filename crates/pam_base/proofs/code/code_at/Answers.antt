use Rattle.pam_base.proofs.CodeNumberFacts.{number_of_code}
use Rattle.pam_base.proofs.code.code_at.Goals as goal

pub returns : goal.returns
returns c = number_of_code c.args.number _ c.requires
