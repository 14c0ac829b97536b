use Rattle.data_cleanup.proofs.Exact.{none_where_none}
use Rattle.data_cleanup.proofs.due_laws.no_data_where_no_births.Goals as goal

pub returns : goal.returns
returns c = none_where_none
