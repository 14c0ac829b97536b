-- The lines run among recorded lines, from one on.
use Rattle.std.proofs.Common.{◌≡◌, ℕ, zero, suc, ◌+◌, ◌-◌, ◌≤◌, List, [], ◌∷◌, Option, Some, None, drop, length, refl, ap, arith}
use Rattle.std.specs.List.{slice_get}
use Rattle.std.proofs.Math.Seq.{drop-length}
use Rattle.handler_chain.specs.declared.seen.RecordedLine.{RecordedLine}
use Rattle.handler_chain.specs.Seen.{seen_of}
use Rattle.pass_replay.specs.Told.{visits_in, lines_before}
use Rattle.pass_replay.proofs.ListRestFacts.{drop_next}

pub fewer : (told : List (Option RecordedLine)) (n : ℕ) → length (visits_in (drop n told)) ≤ length (visits_in told)
fewer [] zero = omega arith
fewer [] (suc n) = omega arith
fewer (t ∷ told) zero = omega arith
fewer (None ∷ told) (suc n) = fewer told n
fewer (Some v ∷ told) (suc n) = omega (arith, fewer told n)

none_here : (v : RecordedLine) → Some None ≡ Some (Some v) → ⊥
none_here v e = (cc)

nothing_there : (v : RecordedLine) → None ≡ Some (Some v) → ⊥
nothing_there v e = (cc)

-- the number of a line that was run leads to its recorded line
before_visit : (told : List (Option RecordedLine)) (n i : ℕ) (v : RecordedLine) → slice_get told n ≡ Some (Some v)
    → i + length (visits_in (drop n told)) ≡ length (visits_in told) → n ≡ lines_before i told
before_visit [] n i v is counted = absurd (nothing_there v is)
before_visit (None ∷ told) zero i v is counted = absurd (none_here v is)
before_visit (Some w ∷ told) zero i v is counted =
    let first : 0 ≡ i = omega (arith, counted) in
    ap (λ k. lines_before k (Some w ∷ told)) first
before_visit (None ∷ told) (suc n) i v is counted = omega (arith, before_visit told n i v is counted)
before_visit (Some w ∷ told) (suc n) zero v is counted = absurd (omega (arith, counted, fewer told n))
before_visit (Some w ∷ told) (suc n) (suc i) v is counted =
    omega (arith, before_visit told n i v is (omega (arith, counted)))

before_end : (told : List (Option RecordedLine)) (i : ℕ) → i ≡ length (visits_in told) → length told ≡ lines_before i told
before_end [] i counted = refl
before_end (None ∷ told) i counted = omega (arith, before_end told i counted)
before_end (Some w ∷ told) zero counted = absurd (omega (arith, counted))
before_end (Some w ∷ told) (suc i) counted = omega (arith, before_end told i (omega (arith, counted)))

pub left_visit : (told : List (Option RecordedLine)) (n : ℕ) (v : RecordedLine) → slice_get told n ≡ Some (Some v)
    → n ≡ lines_before (length (visits_in told) - length (visits_in (drop n told))) told
left_visit told n v is = before_visit told n _ v is (omega (arith, fewer told n))

pub left_end : (told : List (Option RecordedLine)) (n : ℕ) → visits_in (drop n told) ≡ []
    → length told ≡ lines_before (length (visits_in told) - length (visits_in (drop n told))) told
left_end told n none = before_end told _ (omega (arith, ap length none))

-- the line that was run is this one
pub visit_here : (told : List (Option RecordedLine)) (n : ℕ) (v : RecordedLine) → slice_get told n ≡ Some (Some v)
    → visits_in (drop n told) ≡ seen_of v ∷ visits_in (drop (n + 1) told)
visit_here told n v is = ap visits_in (drop_next told n (Some v) is)

pub no_visit_after : (told : List (Option RecordedLine)) → visits_in (drop (length told) told) ≡ []
no_visit_after told = ap visits_in (drop-length told)
