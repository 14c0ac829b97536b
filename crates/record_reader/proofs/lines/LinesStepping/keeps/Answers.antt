use Rattle.record_reader.proofs.CutLineFacts.{lines_keep}
use Rattle.record_reader.proofs.lines.LinesStepping.keeps.Goals as goal

pub returns : goal.returns
returns g c = λ setting. lines_keep (g.R.LineStepping.line_step setting)
