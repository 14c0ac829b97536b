-- A quoted text is read as its bytes.
use Rattle.std.proofs.Common.{◌≡◌, ℕ, ◌+◌, ◌*◌, ◌/◌, ◌%◌, ◌<◌, ◌≤◌, Bool, true, false, ◌&&◌, ◌||◌, nat_eq, nat_le, nat_lt, eqb, if◌then◌else◌, List, [], ◌∷◌, ◌++◌, codes, refl, sym, ◌∙◌, ap, arith, eqb-true, ltb-true, ltb-false, append_assoc}
use Rattle.std.specs.Char.{digit_value}
use Rattle.std.proofs.Math.Nat.{mod-eq_of_lt}
use Rattle.std.proofs.lemmas.Bool.Decides.{nat_tests}
use Rattle.pam_base.specs.Bytes.{has_byte}
use Rattle.pam_base.specs.Quote.{hex_digit, quoted_byte, quoted_rest, quoted_text}
use Rattle.report_lines.specs.Line.{AreBytes}
use Rattle.report_lines.specs.Words.{between, escaped, coded, half_coded, unquoted_from, unquoted}
use Rattle.report_lines.proofs.WordCutFacts.{has-append}

digit_if : (n : ℕ) (b : Bool) → nat_lt n 10 ≡ b → n < 16 → digit_value (if b then n + 48 else n + 87) ≡ n
digit_if n true is lt = let small : n < 10 = ltb-true n 10 is in grind (arith, nat_tests)
digit_if n false is lt = let large : 10 ≤ n = ltb-false n 10 is in grind (arith, nat_tests)

digit_is : (n : ℕ) → n < 16 → digit_value (hex_digit n) ≡ n
digit_is n lt = digit_if n (nat_lt n 10) refl lt

byte_if : (b : ℕ) (rest : List ℕ) (p q : Bool) → nat_eq b 92 ≡ p → b < 256
    → unquoted_from between ((if p then codes "\\\\" else if q then b ∷ [] else codes "\\x" ++ (hex_digit (b / 16) ∷ hex_digit (b % 16) ∷ [])) ++ rest) ≡ b ∷ unquoted_from between rest
byte_if b rest true q is lt = ap (λ (c : ℕ). c ∷ unquoted_from between rest) (sym (eqb-true b 92 is))
byte_if b rest false true is lt =
    let whole : b % 256 ≡ b = mod-eq_of_lt lt in
    ap (λ (c : Bool). if c then unquoted_from escaped rest else (b % 256) ∷ unquoted_from between rest) is ∙ ap (λ (c : ℕ). c ∷ unquoted_from between rest) whole
byte_if b rest false false is lt =
    let high : digit_value (hex_digit (b / 16)) ≡ b / 16 = digit_is (b / 16) (omega arith) in
    let low : digit_value (hex_digit (b % 16)) ≡ b % 16 = digit_is (b % 16) (omega arith) in
    let both : 16 * (b / 16) + b % 16 ≡ b = omega arith in
    ap (λ (c : ℕ). (c % 256) ∷ unquoted_from between rest) (ap (λ (x : ℕ). 16 * x + digit_value (hex_digit (b % 16))) high ∙ ap (λ (x : ℕ). 16 * (b / 16) + x) low ∙ both)
    ∙ ap (λ (c : ℕ). c ∷ unquoted_from between rest) (mod-eq_of_lt lt)

pub unquoted-quoted : (text : List ℕ) → AreBytes text → unquoted (quoted_text text) ≡ text
unquoted-quoted [] bytes = refl
unquoted-quoted (b ∷ text) bytes =
    ap (λ (c : ℕ). unquoted_from between (quoted_byte c ++ quoted_text text)) (mod-eq_of_lt bytes.0)
    ∙ byte_if b (quoted_text text) (nat_eq b 92) (nat_le 32 b && nat_le b 126) refl bytes.0 ∙ ap (λ (t : List ℕ). b ∷ t) (unquoted-quoted text bytes.1)

-- ---- all that is read is bytes

byte_below : (n : ℕ) → n % 256 < 256
byte_below n = omega arith

plain_if : (b : ℕ) (text : List ℕ) (c : Bool) → AreBytes (unquoted_from escaped text) → AreBytes (unquoted_from between text) → AreBytes (if c then unquoted_from escaped text else (b % 256) ∷ unquoted_from between text)
plain_if b text true one two = one
plain_if b text false one two = (byte_below b, two)

coded_if : (b : ℕ) (text : List ℕ) (c : Bool) → AreBytes (unquoted_from coded text) → AreBytes (unquoted_from between text) → AreBytes (if c then unquoted_from coded text else (b % 256) ∷ unquoted_from between text)
coded_if b text true one two = one
coded_if b text false one two = (byte_below b, two)

pub unquoted_bytes : (text : List ℕ) → AreBytes (unquoted_from between text) × AreBytes (unquoted_from escaped text) × AreBytes (unquoted_from coded text) × ((high : ℕ) → AreBytes (unquoted_from (half_coded high) text))
unquoted_bytes [] = (tt, tt, tt, λ high. tt)
unquoted_bytes (b ∷ text) =
    let more = unquoted_bytes text in
    (plain_if b text (nat_eq b 92) more.1 more.0, coded_if b text (nat_eq b 120) more.2 more.0, more.3 (digit_value b), λ high. (byte_below (16 * high + digit_value b), more.0))

-- ---- the quoted text of two texts, and its bytes

pub quoted-append : (one two : List ℕ) → quoted_text (one ++ two) ≡ quoted_text one ++ quoted_text two
quoted-append [] two = refl
quoted-append (b ∷ one) two = ap (λ (t : List ℕ). quoted_rest b ++ t) (quoted-append one two) ∙ sym (append_assoc (quoted_rest b) (quoted_text one) (quoted_text two))

glyph_if : (n : ℕ) (b : Bool) → n < 16 → nat_lt n 10 ≡ b → eqb (if b then n + 48 else n + 87) 10 ≡ false
glyph_if n true lt is = grind (arith, nat_tests)
glyph_if n false lt is = grind (arith, nat_tests)

glyph : (n : ℕ) → n < 16 → eqb (hex_digit n) 10 ≡ false
glyph n lt = glyph_if n (nat_lt n 10) lt refl

printable : (b : ℕ) → nat_le 32 b ≡ true → eqb b 10 ≡ false
printable b le = grind (arith, nat_tests)

one_line : (b : ℕ) (p q : Bool) → nat_le 32 b ≡ q → b < 256 → (r : Bool) → has_byte 10 (if p then codes "\\\\" else if q && r then b ∷ [] else codes "\\x" ++ (hex_digit (b / 16) ∷ hex_digit (b % 16) ∷ [])) ≡ false
one_line b true q is lt r = refl
one_line b false true is lt true = ap (λ (c : Bool). c || false) (printable b is)
one_line b false true is lt false =
    ap (λ (c : Bool). c || (eqb (hex_digit (b % 16)) 10 || false)) (glyph (b / 16) (omega arith)) ∙ ap (λ (c : Bool). c || false) (glyph (b % 16) (omega arith))
one_line b false false is lt r =
    ap (λ (c : Bool). c || (eqb (hex_digit (b % 16)) 10 || false)) (glyph (b / 16) (omega arith)) ∙ ap (λ (c : Bool). c || false) (glyph (b % 16) (omega arith))

-- a quoted text is one line
pub quoted_line : (text : List ℕ) → has_byte 10 (quoted_text text) ≡ false
quoted_line [] = refl
quoted_line (b ∷ text) =
    has-append 10 (quoted_rest b) (quoted_text text) (one_line (b % 256) (nat_eq (b % 256) 92) (nat_le 32 (b % 256)) refl (byte_below b) (nat_le (b % 256) 126)) (quoted_line text)
