use Rattle.std.proofs.Common.{arith, refl, sym}
use Rattle.account_db.specs.Entries.{entries_of}
use Rattle.account_db.proofs.FirstElementFacts.{none_left, taken}
use Rattle.account_db.proofs.TextLineFacts.{at_fault, ended, few_lines}
use Rattle.account_db.proofs.entry.check_lines.Goals as goal

pub overflow_add-number : goal.overflow_add-number
overflow_add-number g c = omega (arith, few_lines c.args.text.now, c.loop-line.invariant.count)

pub returns : goal.returns
unfolding entries_of
returns g c = ended _ _ _ _ c.loop-line.invariant (none_left _ c.in_default.ensures.line)

pub returns-then-is_faulty : goal.returns-then-is_faulty
unfolding entries_of
returns-then-is_faulty g c = at_fault _ _ _ _ _ _ _ c.loop-line.invariant (taken _ _ c.in-Some.ensures.line) refl (sym c.if-is_faulty.ensures)
