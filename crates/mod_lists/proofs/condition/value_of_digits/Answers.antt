use Rattle.std.proofs.Common.{◌≡◌, ◌<◌, ◌≤◌, ◌+◌, ◌*◌, ◌^◌, ℕ, true, List, length, refl, arith}
use Rattle.std.proofs.Math.Nat.{pow-le-pow_right}
use Rattle.std.proofs.lemmas.Bool.Decides.{nat_tests}
use Rattle.mod_lists.specs.Condition.{is_count}
use Rattle.mod_lists.proofs.condition.value_of_digits.Goals as goal

within : (word : List ℕ) → is_count word ≡ true → length word ≤ 18
within word e = grind (arith, nat_tests)

fits : (i n value : ℕ) → i < n → n ≤ 18 → value < 10 ^ i → 10 * value + 255 < 2 ^ 64
fits i n value below most less =
    let all : 10 ^ i ≤ 10 ^ 17 = pow-le-pow_right {n = 10} (omega arith) {i = i} {j = 17} (omega arith) in
    let is : 10 ^ 17 ≡ 100000000000000000 = refl in
    let top : 2 ^ 64 ≡ 18446744073709551616 = refl in
    omega arith

pub overflow_mul-value : goal.overflow_mul-value
overflow_mul-value c = let most = fits _ _ _ c.loop-digit-test.true (within _ c.requires) c.loop-digit.invariant.bounded in omega arith

pub overflow_add-value : goal.overflow_add-value
overflow_add-value c = let most = fits _ _ _ c.loop-digit-test.true (within _ c.requires) c.loop-digit.invariant.bounded in omega arith
