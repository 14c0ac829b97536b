-- An access that fails was planned to, and is the last one.
use Rattle.std.proofs.Common.{◌≡◌, ℕ, ◌+◌, ◌-◌, ◌^◌, ◌<◌, true, ap, ◌∙◌, arith}
use Rattle.std.specs.Prelude.{nat_eq, nat_lt}
use Rattle.std.specs.List.{list_any}
use Rattle.std.proofs.lemmas.Bool.{and_parts, ltb-true}
use Rattle.pam_outside.specs.Counts.{next_count}
use Rattle.pam_outside.specs.Files.{VaultState, counted, is_failing}
use Rattle.explain_origins.specs.Reading.{ends_failing}

one_more : (calls : ℕ) → calls < 2 ^ 64 - 1 → next_count calls ≡ calls + 1
one_more calls few = omega arith

pub failing_last : (old new : VaultState) → is_failing old ≡ true → new ≡ counted old → ends_failing new ≡ true
unfolding ends_failing
failing_last old new fails is =
    let both = and_parts (nat_lt old.calls (2 ^ 64 - 1)) (list_any (λ (n : ℕ). nat_eq n (old.calls + 1)) old.fails) fails in
    ap ends_failing is
    ∙ ap (λ (k : ℕ). list_any (λ (n : ℕ). nat_eq n k) old.fails) (one_more old.calls (ltb-true old.calls (2 ^ 64 - 1) both.0))
    ∙ both.1
