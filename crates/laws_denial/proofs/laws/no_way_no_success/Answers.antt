use Rattle.laws_denial.proofs.Keeping_out.{no_way}
use Rattle.laws_denial.proofs.laws.no_way_no_success.Goals as goal

pub returns : goal.returns
returns g c = no_way _
