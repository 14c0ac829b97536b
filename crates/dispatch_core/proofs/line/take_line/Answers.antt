use Rattle.std.proofs.Common.{◌∙◌, arith}
use Rattle.dispatch_core.proofs.line.take_line.Goals as goal

pub returns-clause-path : goal.returns-clause-path
returns-clause-path c = c.take.ensures.path ∙ c.requires.paths.each c.args.i (omega arith) c.requires.within
