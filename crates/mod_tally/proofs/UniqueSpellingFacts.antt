-- Each source has only one spelling.
use Rattle.std.proofs.Common.{◌≡◌, ℕ, zero, suc, ◌+◌, ◌-◌, ◌*◌, ◌/◌, ◌%◌, ◌<◌, ◌≤◌, Bool, true, false, ◌&&◌, cond, eqb, nat_le, List, [], ◌∷◌, ◌++◌, length, Option, Some, None, refl, sym, ap, ◌∙◌, arith}
use Rattle.std.proofs.lemmas.Bool.{lt-ltb, le-ltb, leb-true, eqb-true, ne_eqb}
use Rattle.std.specs.List.{AllByRecursion}
use Rattle.pam_base.specs.Quote.{hex_digit}
use Rattle.mod_tally.specs.Source.{past_backslash, after_x, byte_of_digits, hex_value, put_before, is_printed, printed, spelled, spelled_byte, unspelled}

-- a source of bytes, and its spelling
pub record Spells (source word : List ℕ) : Type 0 where
  pub text : spelled source ≡ word
  pub bytes : AllByRecursion (λ c. c < 256) source

abbrev Exact : List ℕ → Type 0
Exact word = (source : List ℕ) → unspelled word ≡ Some source → Spells source word

both : (a b : Bool) → (a && b) ≡ true → (a ≡ true) × (b ≡ true)
both true b e = (refl, e)
both false b e = absurd cc

some_same : {A : Type 0} (x y : A) → ◌≡◌ {A = Option A} (Some x) (Some y) → x ≡ y
some_same x y e = cc

-- ---- digits

hex_back : (h v : ℕ) (low high : Bool) → (nat_le 48 h && nat_le h 57) ≡ low → (nat_le 97 h && nat_le h 102) ≡ high → cond low (Some (h - 48)) (cond high (Some (h - 87)) None) ≡ Some v → (hex_digit v ≡ h) × (v < 16)
hex_back h v true high l g e =
    let parts = both (nat_le 48 h) (nat_le h 57) l in
    let is : h - 48 ≡ v = some_same _ _ e in
    let least = leb-true 48 h parts.0 in
    let most = leb-true h 57 parts.1 in
    (rw (lt-ltb v 10 (omega (arith, is, least, most))) (omega (arith, is, least)), omega (arith, is, most))
hex_back h v false true l g e =
    let parts = both (nat_le 97 h) (nat_le h 102) g in
    let is : h - 87 ≡ v = some_same _ _ e in
    let least = leb-true 97 h parts.0 in
    let most = leb-true h 102 parts.1 in
    (rw (le-ltb v 10 (omega (arith, is, least))) (omega (arith, is, least)), omega (arith, is, most))
hex_back h v false false l g e = absurd cc

-- a byte that its digits spell
plain_by : (x y : ℕ) (plain : Bool) → is_printed x ≡ plain → cond plain None (Some x) ≡ Some y → (x ≡ y) × (is_printed y ≡ false)
plain_by x y true p e = absurd cc
plain_by x y false p e = let same : x ≡ y = some_same x y e in (same, ap is_printed (sym same) ∙ p)

digits_back : (h l x : ℕ) (u v : Option ℕ) → hex_value h ≡ u → hex_value l ≡ v → byte_of_digits u v ≡ Some x → (spelled_byte x ≡ 92 ∷ 120 ∷ h ∷ l ∷ []) × (x < 256)
digits_back h l x None v a b e = absurd cc
digits_back h l x (Some high) None a b e = absurd cc
digits_back h l x (Some high) (Some low) a b e =
    let first = hex_back h high _ _ refl refl a in
    let second = hex_back l low _ _ refl refl b in
    let whole = plain_by (16 * high + low) x (is_printed (16 * high + low)) refl e in
    let top : x / 16 ≡ high = omega (arith, whole.0, first.1, second.1) in
    let rest : x % 16 ≡ low = omega (arith, whole.0, first.1, second.1) in
    let other : eqb x 92 ≡ false = ne_eqb x 92 (λ same. let differ : ◌≡◌ {A = Bool} true false = sym (ap is_printed same) ∙ whole.1 in cc) in
    (rw (other, whole.1, top, rest, first.0, second.0) refl, omega (arith, whole.0, first.1, second.1))

-- ---- a byte, and what follows it

by_rest : (x : ℕ) (front rest source : List ℕ) (o : Option (List ℕ)) → spelled_byte x ≡ front → x < 256 → ((more : List ℕ) → o ≡ Some more → Spells more rest) → put_before (Some x) o ≡ Some source → Spells source (front ++ rest)
by_rest x front rest source None s few more e = absurd cc
by_rest x front rest source (Some found) s few more e =
    let is : x ∷ found ≡ source = some_same _ _ e in
    let m = more found refl in
    rw (← is) (record { text = rw (s, m.text) refl; bytes = (few, m.bytes) })

by_printed : (b : ℕ) (rest source : List ℕ) (plain : Bool) → is_printed b ≡ plain → eqb b 92 ≡ false → Exact rest → put_before (cond plain (Some b) None) (unspelled rest) ≡ Some source → Spells source (b ∷ rest)
by_printed b rest source false p n exact e = absurd cc
by_printed b rest source true p n exact e =
    let most = leb-true b 126 (both (nat_le 33 b) (nat_le b 126) p).1 in
    by_rest b (b ∷ []) rest source (unspelled rest) (rw (n, p) refl) (omega (arith, most)) exact e

by_digits_of : (h l : ℕ) (rest source : List ℕ) (o : Option ℕ) → byte_of_digits (hex_value h) (hex_value l) ≡ o → Exact rest → put_before o (unspelled rest) ≡ Some source → Spells source (92 ∷ 120 ∷ h ∷ l ∷ rest)
by_digits_of h l rest source None d exact e = absurd cc
by_digits_of h l rest source (Some x) d exact e =
    let back = digits_back h l x (hex_value h) (hex_value l) refl refl d in
    by_rest x (92 ∷ 120 ∷ h ∷ l ∷ []) rest source (unspelled rest) back.0 back.1 exact e

module _ (n : ℕ) (below : (word : List ℕ) → length word ≤ n → Exact word) where
  x_exact : (bs source : List ℕ) → length bs ≤ n → after_x bs ≡ Some source → Spells source (92 ∷ 120 ∷ bs)
  unfolding unspelled
  x_exact [] source few e = absurd cc
  x_exact (h ∷ []) source few e = absurd cc
  x_exact (h ∷ l ∷ rest) source few e = by_digits_of h l rest source (byte_of_digits (hex_value h) (hex_value l)) refl (below rest (omega (arith, few))) e

  after_slash : (c : ℕ) (rest source : List ℕ) (slash x : Bool) → eqb c 92 ≡ slash → eqb c 120 ≡ x → length rest ≤ n → cond slash (put_before (Some 92) (unspelled rest)) (cond x (after_x rest) None) ≡ Some source → Spells source (92 ∷ c ∷ rest)
  after_slash c rest source true x s g few e =
      let same : c ≡ 92 = eqb-true c 92 s in
      rw same (by_rest 92 (92 ∷ 92 ∷ []) rest source (unspelled rest) refl (omega arith) (below rest few) e)
  after_slash c rest source false true s g few e = let same : c ≡ 120 = eqb-true c 120 g in rw same (x_exact rest source few e)
  after_slash c rest source false false s g few e = absurd cc

  slash_exact : (bs source : List ℕ) → length bs ≤ n → past_backslash bs ≡ Some source → Spells source (92 ∷ bs)
  unfolding unspelled
  slash_exact [] source few e = absurd cc
  slash_exact (c ∷ rest) source few e = after_slash c rest source (eqb c 92) (eqb c 120) refl refl (omega (arith, few)) e

  one_exact : (b : ℕ) (rest source : List ℕ) (slash : Bool) → eqb b 92 ≡ slash → length rest ≤ n → cond slash (past_backslash rest) (put_before (printed b) (unspelled rest)) ≡ Some source → Spells source (b ∷ rest)
  one_exact b rest source true s few e = let same : b ≡ 92 = eqb-true b 92 s in rw same (slash_exact rest source few e)
  one_exact b rest source false s few e = by_printed b rest source (is_printed b) refl s (below rest few) e

within : (n : ℕ) (word : List ℕ) → length word ≤ n → Exact word
unfolding unspelled
within n [] few source e = let none : [] ≡ source = some_same _ _ e in rw (← none) (record { text = refl; bytes = tt })
within zero (b ∷ rest) few source e = absurd (omega (arith, few))
within (suc n) (b ∷ rest) few source e = one_exact n (within n) b rest source (eqb b 92) refl (omega (arith, few)) e

pub unspelled-exact : (word source : List ℕ) → unspelled word ≡ Some source → Spells source word
unspelled-exact word source e = within (length word) word (omega arith) source e
