use Rattle.std.proofs.Common.{sym, ◌∙◌, arith}
use Rattle.pass_replay.proofs.RestOfStackFacts.{lines_sub}
use Rattle.pass_replay.proofs.walk.lines_of.Goals as goal

pub line_count-requires : goal.line_count-requires
line_count-requires c = record { few = omega (arith, lines_sub _ _ c.in-Sub.is, c.requires.few) }

pub returns-in-Sub : goal.returns-in-Sub
returns-in-Sub c = c.line_count.ensures ∙ sym (lines_sub c.args.node.now c.in-Sub.inner c.in-Sub.is)
