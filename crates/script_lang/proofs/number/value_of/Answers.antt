use Rattle.std.proofs.Common.{◌+◌, ◌*◌, ◌<◌, ◌^◌, get_or, refl, ◌∙◌, arith}
use Rattle.std.specs.Char.{digit_value}
use Rattle.script_lang.proofs.Digits.{stays_64}
use Rattle.script_lang.proofs.number.value_of.Goals as goal

pub overflow_mul-value : goal.overflow_mul-value
overflow_mul-value c =
    let sum : c.from.result * c.loop-digit.value + digit_value (get_or c.args.digits.now c.loop-digit.digit-index 0) < 2 ^ 64 =
    stays_64 c.args.radix c.loop-digit.value c.loop-digit.digit-index c.args.digits.now c.requires.low c.requires.fits c.requires.digits c.loop-digit-test.true c.loop-digit.invariant.bounded _ _ c.from.ensures refl in
    omega (arith, sum)

pub overflow_add-value : goal.overflow_add-value
overflow_add-value c =
    let sum : c.from.result * c.loop-digit.value + c.from-in-loop-digit.result < 2 ^ 64 =
    stays_64 c.args.radix c.loop-digit.value c.loop-digit.digit-index c.args.digits.now c.requires.low c.requires.fits c.requires.digits c.loop-digit-test.true c.loop-digit.invariant.bounded _ _ c.from.ensures (c.from-in-loop-digit.ensures ∙ c.digit_value.ensures) in
    omega (arith, sum)
