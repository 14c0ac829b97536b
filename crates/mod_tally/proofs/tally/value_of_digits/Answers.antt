use Rattle.std.proofs.Common.{◌^◌, ◌≤◌, arith}
use Rattle.std.proofs.Math.Nat.{pow-le-pow_right}
use Rattle.mod_tally.proofs.tally.value_of_digits.Goals as goal

pub overflow_mul-value : goal.overflow_mul-value
overflow_mul-value c =
    let small : 10 ^ c.loop-digit.digit-index ≤ 10 ^ 13 = pow-le-pow_right (omega arith) {i = c.loop-digit.digit-index} {j = 13} (omega arith) in
    omega (arith, small, c.loop-digit.invariant.bounded)

pub overflow_add-value : goal.overflow_add-value
overflow_add-value c =
    let small : 10 ^ c.loop-digit.digit-index ≤ 10 ^ 13 = pow-le-pow_right (omega arith) {i = c.loop-digit.digit-index} {j = 13} (omega arith) in
    omega (arith, small, c.loop-digit.invariant.bounded)
