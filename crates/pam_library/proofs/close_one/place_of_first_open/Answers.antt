use Rattle.std.proofs.Common.{◌∙◌, sym, arith}
use Rattle.pam_library.proofs.OpenSlotFacts.{finds, finds_none, looks_first, looks_on}
use Rattle.pam_library.proofs.close_one.place_of_first_open.Goals as goal

pub loop-i-init : goal.loop-i-init
loop-i-init g c = looks_first _ c.args.slots.now

pub loop-i-preserved : goal.loop-i-preserved
loop-i-preserved g c = looks_on _ c.args.slots.now c.loop-i.i c.index-slots-i.result _ (omega (arith, c.loop-i-test.true)) c.index-slots-i.is (sym c.is_open.ensures ∙ c.if-is_open.false) c.loop-i.invariant

pub returns-then-is_open : goal.returns-then-is_open
returns-then-is_open g c = finds _ c.args.slots.now c.loop-i.i c.index-slots-i.result _ (omega (arith, c.loop-i-test.true)) c.index-slots-i.is (sym c.is_open.ensures ∙ c.if-is_open.true) c.loop-i.invariant

pub returns : goal.returns
returns g c = finds_none _ c.args.slots.now c.loop-i.i _ (omega (arith, c.loop-i-test.false)) c.loop-i.invariant
