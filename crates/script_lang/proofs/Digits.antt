-- A number grows by one digit.
use Rattle.std.proofs.Common.{◌≡◌, ℕ, suc, ◌+◌, ◌*◌, ◌^◌, ◌<◌, ◌≤◌, Bool, true, false, List, length, get_or, refl, sym, ◌∙◌, arith, add-one}
use Rattle.std.proofs.Math.Nat.{mul-le-mul_left, pow-le-pow_right, pow-succ'}
use Rattle.std.proofs.lemmas.List.Folds.{list_all_at}
use Rattle.std.proofs.lemmas.Bool.{ltb-true}
use Rattle.std.specs.Char.{digit_value, is_digit}
use Rattle.std.specs.List.{list_all}

-- one more digit keeps a number below the radix's next power
pub grows : (radix value digit i : ℕ) → value < radix ^ i → digit < radix → radix * value + digit < radix ^ (i + 1)
grows radix value digit i below small =
    let most : radix * suc value ≤ radix * radix ^ i = mul-le-mul_left radix below in
    let power : radix ^ suc i ≡ radix * radix ^ i = pow-succ' radix i in
    rw (add-one i, power) (omega (arith, most))

-- if a power of the radix fits, so does a lower one
pub fits : (radix i n : ℕ) → 2 ≤ radix → i ≤ n → radix ^ n ≤ 2 ^ 64 → radix ^ i ≤ 2 ^ 64
fits radix i n low le all =
    let more : radix ^ i ≤ radix ^ n = pow-le-pow_right (omega arith) le in
    omega (arith, more)

otherwise : (b : Bool) → (b ≡ false → ◌≡◌ {A = Bool} true false) → b ≡ true
otherwise true h = refl
otherwise false h = absurd (let e = h refl in cc)

-- each of some digits is below the radix
pub is_small : (radix : ℕ) (digits : List ℕ) (i : ℕ) → list_all (λ digit. is_digit digit radix) digits ≡ true → i < length digits
    → digit_value (get_or digits i 0) < radix
is_small radix digits i all lt =
    ltb-true _ _ (otherwise (is_digit (get_or digits i 0) radix) (λ e. sym all ∙ list_all_at (λ digit. is_digit digit radix) digits i 0 lt e))

-- one more digit of a number: what is so far, times the radix, and the digit
module _ (radix value i : ℕ) (digits : List ℕ) (low : 2 ≤ radix) (all : radix ^ length digits ≤ 2 ^ 64) (small : list_all (λ digit. is_digit digit radix) digits ≡ true) (lt : i < length digits) (below : value < radix ^ i) where
  pub stays_below : (r d : ℕ) → r ≡ radix → d ≡ digit_value (get_or digits i 0) → r * value + d < radix ^ (i + 1)
  stays_below r d e f =
      rw (e, f) (grows radix value (digit_value (get_or digits i 0)) i below (is_small radix digits i small lt))

  pub stays_64 : (r d : ℕ) → r ≡ radix → d ≡ digit_value (get_or digits i 0) → r * value + d < 2 ^ 64
  stays_64 r d e f =
      let below' : r * value + d < radix ^ (i + 1) = stays_below r d e f in
      let power : radix ^ (i + 1) ≤ 2 ^ 64 = fits radix (i + 1) (length digits) low (omega arith) all in
      omega (arith, below', power)
