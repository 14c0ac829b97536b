-- The asked delay, within half of the longest request.
use Rattle.std.proofs.Common.{◌≡◌, ℕ, ◌+◌, ◌-◌, ◌*◌, ◌/◌, ◌%◌, ◌<◌, ◌≤◌, refl, inl, inr, arith}
use Rattle.std.proofs.lemmas.Bool.{cases_lt}
use Rattle.std.proofs.Math.Nat.{mod-eq_of_lt}
use Rattle.std.proofs.lemmas.Grind.{common_steps}
use Rattle.fail_delay.specs.Delay.{spread, asked_delay}

-- the remainder that gives this delay
remainder_for : (longest half delay : ℕ) → half ≤ longest → longest - half ≤ delay → delay ≤ longest + half
    → (r : ℕ) × (r < 2 * half + 1) × (spread longest half r ≡ delay)
remainder_for longest half delay small low high =
    elim (cases_lt delay longest) [
      | inl lt ↦ (half + (longest - delay), omega arith, grind (arith, common_steps))
      | inr le ↦ (delay - longest, omega arith, grind (arith, common_steps))
    ]

asked_at : (longest half remainder delay : ℕ) → half ≡ longest / 2 → remainder < 2 * half + 1 → longest - half ≤ delay → delay ≤ longest + half
    → spread longest half remainder ≡ delay → asked_delay longest remainder ≡ delay
asked_at longest half remainder delay is bound low high e =
    let same : remainder % (2 * (longest / 2) + 1) ≡ remainder = mod-eq_of_lt (omega arith) in
    grind (arith, common_steps)

-- the word that gives it
pub word_for : (longest delay : ℕ) → longest - longest / 2 ≤ delay → delay ≤ longest + longest / 2 → (word : ℕ) × (asked_delay longest word ≡ delay)
word_for longest delay low high =
    let r = remainder_for longest (longest / 2) delay (omega arith) low high in
    let bound : r.0 < 2 * (longest / 2) + 1 = r.1 in
    (r.0, asked_at longest (longest / 2) r.0 delay refl bound low high r.2)
