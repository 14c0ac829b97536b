use Rattle.record_reader.proofs.CutLineFacts.{lines_cut}
use Rattle.record_reader.proofs.lines.LinesStepping.cuts.Goals as goal

pub returns : goal.returns
returns g c = lines_cut
