use Rattle.std.proofs.Common.{rules}
use Rattle.account_db.specs.Parts.{fields_of}
use Rattle.account_db.specs.Replace.{changed_line}
use Rattle.account_db.proofs.FirstElementFacts.{dropped_more}
use Rattle.account_db.proofs.replace.changed_line.Goals as goal

pub loop-preserved : goal.loop-preserved
loop-preserved c = dropped_more (fields_of c.args.line.now) c.loop.parts _ c.loop.counter c.next_part-old.ensures.left c.loop.invariant

pub returns : goal.returns
unfolding changed_line
returns c = search rules
