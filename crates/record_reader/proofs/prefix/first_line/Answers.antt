use Rattle.std.proofs.Common.{◌≡◌, Some, false, arith, rules}
use Rattle.pam_base.specs.Bytes.{has_byte, IsFirstPlace}
use Rattle.record_reader.proofs.CutLineFacts.{line_front, wait_front, last_front}
use Rattle.record_reader.proofs.prefix.first_line.Goals as goal

pub returns-in-Some : goal.returns-in-Some
returns-in-Some c =
    let at : IsFirstPlace (Some c.in-Some.n) 10 c.args.held.now = search rules in
    line_front _ _ _ at

pub returns-then-held-limit_of : goal.returns-then-held-limit_of
returns-then-held-limit_of c =
    let none : has_byte 10 c.args.held.now ≡ false = search rules in
    last_front c.limit_of.result _ _ c.limit_of.ensures (omega (arith, c.if-held-limit_of.true)) none

pub returns-else-held-limit_of : goal.returns-else-held-limit_of
returns-else-held-limit_of c =
    let none : has_byte 10 c.args.held.now ≡ false = search rules in
    wait_front c.limit_of.result _ _ c.limit_of.ensures (omega (arith, c.if-held-limit_of.false)) none
