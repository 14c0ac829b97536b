-- The lines that are looked at.
use Rattle.std.proofs.Common.{◌≡◌, ℕ, ◌+◌, ◌<◌, Bool, true, false, ◌||◌, leb, ltb, eqb, List, [], ◌∷◌, ◌++◌, length, cond, refl, sym, ap, ◌∙◌, append_assoc, length-append, arith}
use Rattle.pam_base.specs.Bytes.{has_byte}
use Rattle.pam_base.specs.Lines.{Cut, onto, cut, cut-line, cut-part, last_line, lines_of}
use Rattle.record_reader.specs.Looked.{looked, last_looked}

pub neither : (a b : Bool) → (a || b) ≡ false → (a ≡ false) × (b ≡ false)
neither true b e = absurd cc
neither false b e = (refl, e)

-- ---- depending on what comes first

pub looked-line : (n : ℕ) (line more : List ℕ) (ended : Bool) → has_byte 10 line ≡ false → looked n (line ++ 10 ∷ more) ended ≡ line ∷ looked (n + 1) more ended
unfolding looked
looked-line n line more ended e =
    let k : n + length (line ∷ (cut more).lines) ≡ (n + 1) + length (cut more).lines = omega arith in
    rw (cut-line line more e, k) refl

-- when the last line is looked at
looked-one : (n : ℕ) (b : ℕ) (bs : List ℕ) (ended : Bool) → has_byte 10 (b ∷ bs) ≡ false → (ended || leb 65536 n || ltb 513 (length (b ∷ bs))) ≡ true
    → looked n (b ∷ bs) ended ≡ (b ∷ bs) ∷ []
unfolding looked last_looked
looked-one n b bs ended e h =
    let k : n + 0 ≡ n = omega arith in
    rw (cut-part (b ∷ bs) e, k, h) refl

pub looked-last : (n : ℕ) (bytes : List ℕ) (ended : Bool) → 0 < length bytes → has_byte 10 bytes ≡ false
    → (ended || leb 65536 n || ltb 513 (length bytes)) ≡ true → looked n bytes ended ≡ bytes ∷ []
looked-last n [] ended pos e h = absurd (omega arith)
looked-last n (b ∷ bs) ended pos e h = looked-one n b bs ended e h

pub looked-partial : (n : ℕ) (part : List ℕ) → has_byte 10 part ≡ false → (leb 65536 n || ltb 513 (length part)) ≡ false → looked n part false ≡ []
unfolding looked last_looked
looked-partial n [] e h = rw (cut-part [] e) refl
looked-partial n (b ∷ bs) e h =
    let k : n + 0 ≡ n = omega arith in
    rw (cut-part (b ∷ bs) e, k, h) refl

pub looked-none : (n : ℕ) (ended : Bool) → looked n [] ended ≡ []
unfolding looked last_looked cut
looked-none n ended = refl

-- ---- the lines of a prefix and what follows it

glued : Cut → Cut → Cut
glued p q = record { lines = p.lines ++ q.lines; rest = q.rest }

onto-glued : (x : ℕ) (ls : List (List ℕ)) (r : List ℕ) (b : List ℕ) → eqb x 10 ≡ false
    → onto x (ls ++ (cut (r ++ b)).lines) (cut (r ++ b)).rest ≡ glued (onto x ls r) (cut ((onto x ls r).rest ++ b))
unfolding cut glued
onto-glued x [] r b e = rw e refl
onto-glued x (l ∷ ls) r b e = refl

append-step : (x : ℕ) (a b : List ℕ) (t : Bool) → eqb x 10 ≡ t → cut (a ++ b) ≡ glued (cut a) (cut ((cut a).rest ++ b))
    → cut ((x ∷ a) ++ b) ≡ glued (cut (x ∷ a)) (cut ((cut (x ∷ a)).rest ++ b))
unfolding cut glued
append-step x a b true e h = rw (e, h) refl
append-step x a b false e h = rw (e, h) (onto-glued x (cut a).lines (cut a).rest b e)

cut-append : (a b : List ℕ) → cut (a ++ b) ≡ glued (cut a) (cut ((cut a).rest ++ b))
unfolding cut glued
cut-append [] b = refl
cut-append (x ∷ a) b = append-step x a b (eqb x 10) refl (cut-append a b)

onto-rest : (x : ℕ) (ls : List (List ℕ)) (r : List ℕ) → eqb x 10 ≡ false → has_byte 10 r ≡ false → has_byte 10 (onto x ls r).rest ≡ false
onto-rest x [] r e h = rw (e, h) refl
onto-rest x (l ∷ ls) r e h = h

rest-step : (x : ℕ) (a : List ℕ) (t : Bool) → eqb x 10 ≡ t → has_byte 10 (cut a).rest ≡ false → has_byte 10 (cut (x ∷ a)).rest ≡ false
unfolding cut
rest-step x a true e h = rw e h
rest-step x a false e h = rw e (onto-rest x (cut a).lines (cut a).rest e h)

pub rest-has_no_newline : (a : List ℕ) → has_byte 10 (cut a).rest ≡ false
unfolding cut
rest-has_no_newline [] = refl
rest-has_no_newline (x ∷ a) = rest-step x a (eqb x 10) refl (rest-has_no_newline a)

-- bytes without a newline are the beginning of the first line
unfoldable pub before : List ℕ → List (List ℕ) → List ℕ → Cut
before r [] rest = record { lines = []; rest = r ++ rest }
before r (l ∷ ls) rest = record { lines = (r ++ l) ∷ ls; rest = rest }

onto-before : (x : ℕ) (r : List ℕ) (ls : List (List ℕ)) (rest : List ℕ) → onto x (before r ls rest).lines (before r ls rest).rest ≡ before (x ∷ r) ls rest
unfolding before
onto-before x r [] rest = refl
onto-before x r (l ∷ ls) rest = refl

before-nothing : (ls : List (List ℕ)) (rest : List ℕ) → before [] ls rest ≡ record { lines = ls; rest = rest }
unfolding before
before-nothing [] rest = refl
before-nothing (l ∷ ls) rest = refl

pub cut-before : (r b : List ℕ) → has_byte 10 r ≡ false → cut (r ++ b) ≡ before r (cut b).lines (cut b).rest
unfolding cut
cut-before [] b h = sym (before-nothing (cut b).lines (cut b).rest)
cut-before (x ∷ r) b h =
    let both = neither (eqb x 10) (has_byte 10 r) h in
    rw (both.0, cut-before r b both.1) (onto-before x r (cut b).lines (cut b).rest)

pub looked-append : (n : ℕ) (a b : List ℕ) (ended : Bool)
    → looked n (a ++ b) ended ≡ (cut a).lines ++ looked (n + length (cut a).lines) ((cut a).rest ++ b) ended
unfolding looked glued
looked-append n a b ended =
    let m = cut ((cut a).rest ++ b) in
    let k : n + length ((cut a).lines ++ m.lines) ≡ (n + length (cut a).lines) + length m.lines = omega (arith, length-append (cut a).lines m.lines) in
    rw (cut-append a b, k) (append_assoc (cut a).lines m.lines (last_looked ((n + length (cut a).lines) + length m.lines) m.rest ended))

-- ---- at the end of the input

last_all : (n : ℕ) (rest : List ℕ) → last_looked n rest true ≡ last_line rest
unfolding last_looked
last_all n [] = refl
last_all n (b ∷ bs) = refl

pub looked-all : (n : ℕ) (bytes : List ℕ) → looked n bytes true ≡ lines_of bytes
unfolding looked lines_of
looked-all n bytes = ap (λ (ls : List (List ℕ)). (cut bytes).lines ++ ls) (last_all (n + length (cut bytes).lines) (cut bytes).rest)

-- ---- bytes of which no line is whole

onto-none : (x : ℕ) (ls : List (List ℕ)) (r : List ℕ) → (onto x ls r).lines ≡ [] → ls ≡ []
onto-none x [] r e = refl
onto-none x (l ∷ ls) r e = absurd cc

one_by : (x : ℕ) (xs : List ℕ) (whole : Cut) (t : Bool) → eqb x 10 ≡ t → ((cut xs).lines ≡ [] → has_byte 10 xs ≡ false) → whole.lines ≡ [] ∷ (cut xs).lines
    → (cond t whole (onto x (cut xs).lines (cut xs).rest)).lines ≡ [] → has_byte 10 (x ∷ xs) ≡ false
one_by x xs whole true h rest w e =
    let no : ◌≡◌ {A = List (List ℕ)} ([] ∷ (cut xs).lines) [] = sym w ∙ e in
    absurd cc
one_by x xs whole false h rest w e = rw h (rest (onto-none x (cut xs).lines (cut xs).rest e))

pub one_part : (bytes : List ℕ) → (cut bytes).lines ≡ [] → has_byte 10 bytes ≡ false
unfolding cut
one_part [] e = refl
one_part (x ∷ xs) e = one_by x xs _ (eqb x 10) refl (one_part xs) refl e
