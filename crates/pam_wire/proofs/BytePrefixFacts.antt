-- What some bytes begin with stays the same, whatever follows them.
use Rattle.std.proofs.Common.{◌≡◌, ℕ, suc, ◌+◌, ◌≤◌, Bool, true, false, ◌||◌, cond, List, [], ◌∷◌, ◌++◌, length, nat_lt, nat_le, refl, arith, length-append}
use Rattle.std.proofs.lemmas.Bool.{leb-true, leb-false, ltb-true, ltb-false, le-leb, lt-ltb}
use Rattle.std.specs.Int.{w16, from_be_bytes}
use Rattle.pam_wire.specs.declared.prefix.FirstFrame.{FirstFrame}
use Rattle.pam_wire.specs.declared.prefix.FirstFrame.TheVariants.{Open, OutOfRange, Whole}
use Rattle.pam_wire.specs.Read.{first_frame_by, first_frame_of}
use Rattle.pam_wire.specs.Laws.{Settles, FirstFrameSettles}

-- by a length, if n bytes follow, and others after them
unfoldable SettlesBy : FirstFrame → ℕ → ℕ → ℕ → Type 0
SettlesBy (Whole size) said follow all = (4 ≤ size) × (size ≤ suc (suc follow)) × (first_frame_by said all ≡ Whole size)
SettlesBy OutOfRange said follow all = first_frame_by said all ≡ OutOfRange
SettlesBy Open said follow all = follow ≤ 579

by_length : (said follow all : ℕ) (t u v : Bool) → follow ≤ all → nat_lt said 2 ≡ t → nat_lt 580 said ≡ u → nat_le said follow ≡ v
    → SettlesBy (cond (t || u) OutOfRange (cond v (Whole (said + 2)) Open)) said follow all
unfolding SettlesBy
by_length said follow all true u v le h k l = rw h refl
by_length said follow all false true v le h k l = rw (h, k) refl
by_length said follow all false false true le h k l =
    let low = ltb-false said 2 h in
    let fits = leb-true said follow l in
    (omega (arith, low), omega (arith, fits), rw (h, k, le-leb said all (omega (arith, fits, le))) refl)
by_length said follow all false false false le h k l =
    let high = ltb-false 580 said k in
    let fewer = leb-false said follow l in
    omega (arith, high, fewer)

by_said : (said follow all : ℕ) → follow ≤ all → SettlesBy (first_frame_by said follow) said follow all
by_said said follow all le = by_length said follow all _ _ _ le refl refl refl

settles_two : (f : FirstFrame) (a b : ℕ) (bytes more : List ℕ) → SettlesBy f (from_be_bytes w16 (a ∷ b ∷ [])) (length bytes) (length (bytes ++ more)) → Settles f (a ∷ b ∷ bytes) more
unfolding SettlesBy
settles_two (Whole size) a b bytes more s = (s.0, omega (arith, s.1), s.2)
settles_two OutOfRange a b bytes more s = (omega arith, s)
settles_two Open a b bytes more s = omega (arith, s)

one_over : (a : ℕ) (more : List ℕ) → nat_lt 2 a ≡ true → first_frame_of (a ∷ more) ≡ OutOfRange
one_over a [] e = rw e refl
one_over a (b ∷ more) e =
    let above = ltb-true 2 a e in
    let high : nat_lt 580 (from_be_bytes w16 (a ∷ b ∷ [])) ≡ true = lt-ltb 580 _ (omega (arith, above)) in
    by_high (nat_lt (from_be_bytes w16 (a ∷ b ∷ [])) 2) (cond (nat_le (from_be_bytes w16 (a ∷ b ∷ [])) (length more)) (Whole (from_be_bytes w16 (a ∷ b ∷ []) + 2)) Open) high
  where
    by_high : (t : Bool) (other : FirstFrame) → nat_lt 580 (from_be_bytes w16 (a ∷ b ∷ [])) ≡ true → cond (t || nat_lt 580 (from_be_bytes w16 (a ∷ b ∷ []))) OutOfRange other ≡ OutOfRange
    by_high true other h = refl
    by_high false other h = rw h refl

settles_one : (a : ℕ) (more : List ℕ) (t : Bool) → nat_lt 2 a ≡ t → Settles (cond t OutOfRange Open) (a ∷ []) more
settles_one a more true e = (omega arith, one_over a more e)
settles_one a more false e = omega arith

pub first_frame_settles : FirstFrameSettles
first_frame_settles = settles
  where
    settles : (bytes more : List ℕ) → Settles (first_frame_of bytes) bytes more
    settles [] more = omega arith
    settles (a ∷ []) more = settles_one a more (nat_lt 2 a) refl
    settles (a ∷ b ∷ bytes) more = settles_two _ a b bytes more (by_said _ (length bytes) (length (bytes ++ more)) (omega (arith, length-append bytes more)))
