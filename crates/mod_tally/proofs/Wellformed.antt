-- What is read from a tally file can be written.
use Rattle.std.proofs.Common.{◌≡◌, ℕ, ◌+◌, ◌-◌, ◌*◌, ◌^◌, ◌<◌, ◌≤◌, Bool, true, false, ◌&&◌, ◌==◌, cond, nat_le, nat_lt, nat_eq, List, [], ◌∷◌, length, take, drop, fold, position, Option, Some, None, refl, subst, arith}
use Rattle.std.proofs.Math.Nat.{pow-le-pow_right}
use Rattle.std.proofs.lemmas.Bool.{leb-true}
use Rattle.std.proofs.lemmas.Grind.{pow_more}
use Rattle.std.specs.Char.{is_ascii_digit}
use Rattle.std.specs.List.{AllByRecursion, ends_with, list_all}
use Rattle.pam_base.specs.Lines.{lines_of}
use Rattle.pam_base.specs.Number.{value_of_digits}
use Rattle.mod_tally.specs.declared.tally.Failure.{Failure}
use Rattle.mod_tally.specs.declared.tally.Version.{Version}
use Rattle.mod_tally.specs.declared.tally.Version.TheVariants.{One, Two}
use Rattle.mod_tally.specs.Source.{put_before, unspelled}
use Rattle.mod_tally.specs.Tally.{IsFailure, all_in, failures_of_version, cut_at, failure_in, failures_of, in_lines, is_kind, moment_of, unknown_at, version_of, with_moment, with_origin, with_source}
use Rattle.mod_tally.specs.Recorded.{failures_on_file}
use Rattle.mod_tally.proofs.UniqueSpellingFacts.{unspelled-exact}

both : (a b : Bool) → (a && b) ≡ true → (a ≡ true) × (b ≡ true)
both true b e = (refl, e)
both false b e = absurd cc

some_same : {A : Type 0} (x y : A) → ◌≡◌ {A = Option A} (Some x) (Some y) → x ≡ y
some_same x y e = cc

-- if a test let something through
let_through : {A : Type 0} (b : Bool) (x y : A) → cond b (Some x) None ≡ Some y → (b ≡ true) × (x ≡ y)
let_through true x y e = (refl, some_same x y e)
let_through false x y e = absurd cc

-- ---- times

digits_below : (ds : List ℕ) (value k : ℕ) → list_all is_ascii_digit ds ≡ true → value < 10 ^ k → fold (λ value digit. 10 * value + (digit - 48)) value ds < 10 ^ (k + length ds)
digits_below [] value k all lt = subst (λ (n : ℕ). value < 10 ^ n) (omega arith) lt
digits_below (d ∷ ds) value k all lt =
    let parts = both (is_ascii_digit d) (list_all is_ascii_digit ds) all in
    let most = leb-true d 57 (both (nat_le 48 d) (nat_le d 57) parts.0).1 in
    let next : 10 * value + (d - 48) < 10 ^ (k + 1) = omega (arith, pow_more 10 k, most, lt) in
    subst (λ (n : ℕ). fold (λ value digit. 10 * value + (digit - 48)) (10 * value + (d - 48)) ds < 10 ^ n) (omega arith) (digits_below ds (10 * value + (d - 48)) (k + 1) parts.1 next)

moment_below : (word : List ℕ) (m : ℕ) → moment_of word ≡ Some m → m < 10 ^ 13
moment_below word m e =
    let through = let_through (nat_lt 0 (length word) && nat_le (length word) 13 && list_all is_ascii_digit word) (value_of_digits word) m e in
    let digits = both (nat_lt 0 (length word) && nat_le (length word) 13) (list_all is_ascii_digit word) through.0 in
    let few = both (nat_lt 0 (length word)) (nat_le (length word) 13) digits.0 in
    let least : value_of_digits word < 10 ^ (0 + length word) = digits_below word 0 0 digits.1 (omega arith) in
    let most : 10 ^ (0 + length word) ≤ 10 ^ 13 = pow-le-pow_right (omega arith) {i = 0 + length word} {j = 13} (omega (arith, leb-true (length word) 13 few.1)) in
    omega (arith, least, most, through.1)

-- ---- a line

unknown_fits : (m : ℕ) (f : Failure) → m < 10 ^ 13 → unknown_at m ≡ f → IsFailure f
unknown_fits m f lt e = subst IsFailure e (record { moment = lt; origin = refl })

one_fits : (o : Option ℕ) (f : Failure) → ((m : ℕ) → o ≡ Some m → m < 10 ^ 13) → with_moment o ≡ Some f → IsFailure f
one_fits None f below e = absurd cc
one_fits (Some m) f below e = unknown_fits m f (below m refl) (some_same (unknown_at m) f e)

source_fits : (m k : ℕ) (word : List ℕ) (o : Option (List ℕ)) (f : Failure) → m < 10 ^ 13 → is_kind k ≡ true → unspelled word ≡ o → with_source m k o ≡ Some f → IsFailure f
source_fits m k word None f lt kind u e = absurd cc
source_fits m k word (Some []) f lt kind u e = absurd cc
source_fits m k word (Some (b ∷ bs)) f lt kind u e =
    subst IsFailure (some_same (record { moment = m; kind = k; source = b ∷ bs }) f e) (record { moment = lt; origin = (kind, (unspelled-exact word (b ∷ bs) u).bytes) })

by_kind : (m k : ℕ) (word : List ℕ) (f : Failure) (b : Bool) → (b ≡ true → is_kind k ≡ true) → m < 10 ^ 13 → cond b (with_source m k (unspelled word)) None ≡ Some f → IsFailure f
by_kind m k word f true kind lt e = source_fits m k word (unspelled word) f lt (kind refl) refl e
by_kind m k word f false kind lt e = absurd cc

origin_fits : (word : List ℕ) (o : Option ℕ) (f : Failure) → ((m : ℕ) → o ≡ Some m → m < 10 ^ 13) → with_origin word o ≡ Some f → IsFailure f
origin_fits [] None f below e = absurd cc
origin_fits (k ∷ []) None f below e = absurd cc
origin_fits (k ∷ s ∷ word) None f below e = absurd cc
origin_fits [] (Some m) f below e = absurd cc
origin_fits (k ∷ []) (Some m) f below e = unknown_fits m f (below m refl) (let_through (k == 85) (unknown_at m) f e).1
origin_fits (k ∷ s ∷ word) (Some m) f below e = by_kind m k word f (is_kind k && s == 32) (λ t. (both (is_kind k) (s == 32) t).0) (below m refl) e

cut_fits : (o : Option ℕ) (line : List ℕ) (f : Failure) → cut_at o line ≡ Some f → IsFailure f
cut_fits None line f e = absurd cc
cut_fits (Some n) line f e = origin_fits (drop (n + 1) line) (moment_of (take n line)) f (moment_below (take n line)) e

line_fits : (version : Version) (line : List ℕ) (f : Failure) → failure_in version line ≡ Some f → IsFailure f
line_fits One line f e = one_fits (moment_of line) f (moment_below line) e
line_fits Two line f e = cut_fits (position (λ b. b == 32) line) line f e

-- ---- the file

front_fits : (o : Option Failure) (rest : Option (List Failure)) (fs : List Failure) → ((f : Failure) → o ≡ Some f → IsFailure f) → ((gs : List Failure) → rest ≡ Some gs → AllByRecursion IsFailure gs) → put_before o rest ≡ Some fs → AllByRecursion IsFailure fs
front_fits None rest fs first more e = absurd cc
front_fits (Some f) None fs first more e = absurd cc
front_fits (Some f) (Some gs) fs first more e = subst (AllByRecursion IsFailure) (some_same (f ∷ gs) fs e) (first f refl, more gs refl)

lines_fit : (version : Version) (lines : List (List ℕ)) (fs : List Failure) → all_in (failure_in version) lines ≡ Some fs → AllByRecursion IsFailure fs
lines_fit version [] fs e = subst (AllByRecursion IsFailure) (some_same [] fs e) tt
lines_fit version (l ∷ ls) fs e = front_fits (failure_in version l) (all_in (failure_in version) ls) fs (line_fits version l) (lines_fit version ls) e

version_fits : (o : Option Version) (lines : List (List ℕ)) (fs : List Failure) → failures_of_version o lines ≡ Some fs → AllByRecursion IsFailure fs
version_fits None lines fs e = absurd cc
version_fits (Some version) lines fs e = lines_fit version lines fs e

whole_fits : (b : Bool) (lines : List (List ℕ)) (fs : List Failure) → cond b (in_lines lines) None ≡ Some fs → AllByRecursion IsFailure fs
whole_fits false lines fs e = absurd cc
whole_fits true [] fs e = absurd cc
whole_fits true (header ∷ lines) fs e = version_fits (version_of header) lines fs e

pub read-fits : (text : List ℕ) (fs : List Failure) → failures_of text ≡ Some fs → AllByRecursion IsFailure fs
unfolding failures_of
read-fits text fs e = whole_fits (ends_with nat_eq text (10 ∷ [])) (lines_of text) fs e

pub on_file-fits : (file : Option (List ℕ)) (fs : List Failure) → failures_on_file file ≡ Some fs → AllByRecursion IsFailure fs
on_file-fits None fs e = subst (AllByRecursion IsFailure) (some_same [] fs e) tt
on_file-fits (Some text) fs e = read-fits text fs e
