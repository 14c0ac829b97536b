-- A source is read from its spelling.
use Rattle.std.proofs.Common.{◌≡◌, ℕ, ◌+◌, ◌*◌, ◌/◌, ◌%◌, ◌<◌, ◌≤◌, Bool, true, false, ◌&&◌, ◌||◌, cond, eqb, ltb, nat_le, List, [], ◌∷◌, ◌++◌, codes, Some, refl, ap, ◌∙◌, arith}
use Rattle.std.proofs.lemmas.Bool.{le-leb, lt-leb, ltb-true, ltb-false, leb-true, eqb-true, ne_eqb}
use Rattle.std.specs.List.{AllByRecursion}
use Rattle.pam_base.specs.Bytes.{has_byte}
use Rattle.pam_base.specs.Quote.{hex_digit}
use Rattle.mod_tally.specs.Source.{hex_value, put_before, is_printed, spelled, spelled_byte, unspelled}

-- ---- digits

digit_by : (n : ℕ) (small : Bool) → ltb n 10 ≡ small → n < 16 → hex_value (cond small (n + 48) (n + 87)) ≡ Some n
digit_by n true lt few =
    let below = ltb-true n 10 lt in
    rw (le-leb 48 (n + 48) (omega arith), le-leb (n + 48) 57 (omega (arith, below))) (ap (λ (x : ℕ). Some x) (omega arith))
digit_by n false ge few =
    let above = ltb-false n 10 ge in
    rw (lt-leb (n + 87) 57 (omega arith), le-leb 97 (n + 87) (omega (arith, above)), le-leb (n + 87) 102 (omega (arith, few))) (grind arith)

hex_value-digit : (n : ℕ) → n < 16 → hex_value (hex_digit n) ≡ Some n
hex_value-digit n few = digit_by n (ltb n 10) refl few

-- ---- a byte

by_kind : (b : ℕ) (more : List ℕ) (slash plain : Bool) → eqb b 92 ≡ slash → is_printed b ≡ plain → b < 256
    → unspelled (cond slash (codes "\\\\") (cond plain (b ∷ []) (codes "\\x" ++ (hex_digit (b / 16) ∷ hex_digit (b % 16) ∷ []))) ++ more) ≡ put_before (Some b) (unspelled more)
unfolding unspelled
by_kind b more true plain e p few = let same : b ≡ 92 = eqb-true b 92 e in rw same refl
by_kind b more false true e p few = rw (e, p) refl
by_kind b more false false e p few =
    let high = hex_value-digit (b / 16) (omega (arith, few)) in
    let low = hex_value-digit (b % 16) (omega arith) in
    let whole : 16 * (b / 16) + b % 16 ≡ b = omega arith in
    rw (high, low, whole, p) refl

pub spelled_one : (b : ℕ) (more : List ℕ) → b < 256 → unspelled (spelled_byte b ++ more) ≡ put_before (Some b) (unspelled more)
spelled_one b more few = by_kind b more (eqb b 92) (is_printed b) refl refl few

pub unspelled-spelled : (source : List ℕ) → AllByRecursion (λ c. c < 256) source → unspelled (spelled source) ≡ Some source
unfolding unspelled
unspelled-spelled [] all = refl
unspelled-spelled (b ∷ bs) all = spelled_one b (spelled bs) all.0 ∙ rw (unspelled-spelled bs all.1) refl

-- ---- bytes that are lacking

either : (t : Bool) (rest : Bool) → (t || rest) ≡ false → (t ≡ false) × (rest ≡ false)
either true rest e = absurd cc
either false rest e = (refl, e)

pub lacks_both : (x : ℕ) (a b : List ℕ) → has_byte x a ≡ false → has_byte x b ≡ false → has_byte x (a ++ b) ≡ false
lacks_both x [] b e f = f
lacks_both x (y ∷ a) b e f =
    let parts = either (eqb y x) (has_byte x a) e in
    rw (parts.0, lacks_both x a b parts.1 f) refl

-- no newline and no space is in a spelling
hex_high : (n : ℕ) (small : Bool) → 48 ≤ cond small (n + 48) (n + 87)
hex_high n true = omega arith
hex_high n false = omega arith

not_low : (n x : ℕ) → x < 48 → eqb (hex_digit n) x ≡ false
not_low n x low = ne_eqb (hex_digit n) x (λ e. omega (arith, hex_high n (ltb n 10), e, low))

both_parts : (a b : Bool) → (a && b) ≡ true → (a ≡ true) × (b ≡ true)
both_parts true b e = (refl, e)
both_parts false b e = absurd cc

by_kind_lacks : (b x : ℕ) (slash plain : Bool) → is_printed b ≡ plain → x < 33 → has_byte x (cond slash (codes "\\\\") (cond plain (b ∷ []) (codes "\\x" ++ (hex_digit (b / 16) ∷ hex_digit (b % 16) ∷ [])))) ≡ false
by_kind_lacks b x true plain p low = rw (ne_eqb 92 x (λ e. omega (arith, low, e))) refl
by_kind_lacks b x false true p low = rw (ne_eqb b x (λ e. omega (arith, low, e, leb-true 33 b (both_parts (nat_le 33 b) (nat_le b 126) p).0))) refl
by_kind_lacks b x false false p low = rw (ne_eqb 92 x (λ e. omega (arith, low, e)), ne_eqb 120 x (λ e. omega (arith, low, e)), not_low (b / 16) x (omega (arith, low)), not_low (b % 16) x (omega (arith, low))) refl

pub spelled-lacks : (x : ℕ) (source : List ℕ) → x < 33 → has_byte x (spelled source) ≡ false
spelled-lacks x [] low = refl
spelled-lacks x (b ∷ bs) low = lacks_both x (spelled_byte b) (spelled bs) (by_kind_lacks b x (eqb b 92) (is_printed b) refl low) (spelled-lacks x bs low)
