use Rattle.sha_crypt.specs.declared.setting.Method.TheVariants.{Sha256, Sha512}
use Rattle.sha_crypt.proofs.Plain.{plain_fine}
use Rattle.sha_crypt.proofs.laws.plain_settings_have_no_fault.Goals as goal

pub returns-clause-sha256 : goal.returns-clause-sha256
returns-clause-sha256 c = plain_fine Sha256

pub returns-clause-sha512 : goal.returns-clause-sha512
returns-clause-sha512 c = plain_fine Sha512
