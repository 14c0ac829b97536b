use Rattle.std.proofs.Common.{◌≡◌, ◌+◌, ◌/◌, ◌%◌, ◌++◌, ◌∷◌, [], decimal, string_bytes, rules, arith}
use Rattle.std.proofs.lemmas.Fmt.{decimal_digit, decimal_step}
use Rattle.std.proofs.lemmas.List.{append_assoc}
use Rattle.report_lines.proofs.number.+write_number.Goals as goal

pub returns-then-number-lt10 : goal.returns-then-number-lt10
returns-then-number-lt10 g c =
    let is = decimal_digit c.args.number (omega (arith, c.if-number-lt10.true)) in
    search (rules, is)

pub returns : goal.returns
returns g c =
    let is = decimal_step c.args.number (omega (arith, c.if-number-lt10.false)) c.ranges.number.fits in
    let whole = append_assoc (string_bytes c.args.text.now) (decimal (c.args.number / 10)) ((48 + c.args.number % 10) ∷ []) in
    search (rules, is, whole)
