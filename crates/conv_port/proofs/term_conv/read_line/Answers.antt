use Rattle.std.proofs.Common.{arith, ◌≡◌, length}
use Rattle.conv_port.proofs.TypedReplyFacts.{line_ended, line_full, line_at_end, positive}
use Rattle.conv_port.proofs.term_conv.read_line.Goals as goal

pub returns-in-Some-eq10-clause-typed : goal.returns-in-Some-eq10-clause-typed
returns-in-Some-eq10-clause-typed g c =
    let byte = rw c.in-Some-eq10.is at c.in_ok-read_byte.ensures.byte in
    line_ended _ _ _ _ c.in-Some-eq10.field-0 c.loop-reader.invariant.taken byte c.in-Some-eq10.field-0-test c.loop-reader.invariant.plain
    (omega (arith, c.loop-reader-test.true, c.len.ensures))

pub returns-in-None-2-clause-typed : goal.returns-in-None-2-clause-typed
returns-in-None-2-clause-typed g c =
    let byte = rw c.in-None.is at c.in_ok-read_byte.ensures.byte in
    let some = positive _ (rw c.is_empty.ensures at c.if-is_empty.false) in
    line_at_end _ _ _ _ c.loop-reader.invariant.taken byte.0 byte.1 c.loop-reader.invariant.plain
    (omega (arith, c.loop-reader.invariant.within)) (omega (arith, some))

pub returns-clause-typed : goal.returns-clause-typed
returns-clause-typed g c =
    let len : length c.loop-reader.text ≡ 512 = omega (arith, c.loop-reader-test.false, c.len.ensures, c.loop-reader.invariant.within) in
    line_full _ _ _ c.loop-reader.invariant.taken c.loop-reader.invariant.plain len
