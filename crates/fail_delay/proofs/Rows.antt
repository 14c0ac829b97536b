-- Test cases, computed on the definitions.
use Rattle.std.proofs.Common.{◌≡◌, ℕ, true, false, [], ◌∷◌, Some, None, refl}
use Rattle.pam_base.specs.declared.code.Code.{Code}
use Rattle.pam_base.specs.declared.code.Code.TheVariants.{Success, AuthErr}
use Rattle.fail_delay.specs.Delay.{longest_of, asked_delay}
use Rattle.fail_delay.specs.Wait.{wait_of}

-- three seconds, at some words
no_spread : asked_delay 3000000 0 ≡ 3000000
no_spread = refl

longer : asked_delay 3000000 1 ≡ 3000001
longer = refl

longest : asked_delay 3000000 1500000 ≡ 4500000
longest = refl

shorter : asked_delay 3000000 1500001 ≡ 2999999
shorter = refl

shortest : asked_delay 3000000 3000000 ≡ 1500000
shortest = refl

round_again : asked_delay 3000000 3000001 ≡ 3000000
round_again = refl

-- no request
nothing : asked_delay 0 12 ≡ 0
nothing = refl

-- of some requests the longest, cut to a minute
most : longest_of (7 ∷ 2000000 ∷ 100 ∷ []) ≡ 2000000
most = refl

minute : longest_of (2000000 ∷ 60000001 ∷ []) ≡ 60000000
minute = refl

none : longest_of [] ≡ 0
none = refl

-- without a delay function, after a failure, after a success, and without a request
abbrev unused : Code → ℕ → ℕ
unused code asked = 5

failed : wait_of false unused AuthErr 3000000 ≡ Some 3000000
failed = refl

succeeded : wait_of false unused Success 3000000 ≡ None
succeeded = refl

not_asked : wait_of false unused AuthErr 0 ≡ None
not_asked = refl

-- a delay function that is on is always called
on_success : wait_of true unused Success 0 ≡ Some 5
on_success = refl
