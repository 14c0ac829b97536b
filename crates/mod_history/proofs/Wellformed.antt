-- What is read from a history can be written.
use Rattle.std.proofs.Common.{◌≡◌, ℕ, Bool, true, false, cond, eqb, List, [], ◌∷◌, ◌++◌, Option, Some, None, refl, subst}
use Rattle.std.specs.List.{AllByRecursion, onto_first, slice_split}
use Rattle.pam_base.specs.Bytes.{has_byte}
use Rattle.pam_base.specs.Lines.{Cut, cut, last_line, lines_of, onto}
use Rattle.pam_base.specs.Parts.{parts_of}
use Rattle.pam_base.proofs.TextPartFacts.{either}
use Rattle.mod_history.specs.declared.history.Remembered.{Remembered}
use Rattle.mod_history.specs.History.{IsHistory, IsLine, IsPart, all_in, are_distinct, history_of, if_distinct, put_before, part_in, remembered_in, with_hashes, with_parts}
use Rattle.mod_history.specs.Standing.{history_on_file}

pub some_same : {A : Type 0} (x y : A) → ◌≡◌ {A = Option A} (Some x) (Some y) → x ≡ y
some_same x y e = cc

-- ---- texts that lack a byte

abbrev pub Lack : ℕ → List (List ℕ) → Type 0
Lack byte [] = Unit {0}
Lack byte (l ∷ ls) = (has_byte byte l ≡ false) × Lack byte ls

onto_lack : (byte b : ℕ) (ps : List (List ℕ)) → eqb b byte ≡ false → Lack byte ps → Lack byte (onto_first b ps)
onto_lack byte b [] e h = (rw e refl, tt)
onto_lack byte b (p ∷ ps) e h = (rw e h.0, h.1)

-- depending on whether the next byte is a separator
split_lack : (byte b : ℕ) (x : Bool) (ps : List (List ℕ)) → (x ≡ false → eqb b byte ≡ false) → Lack byte ps → Lack byte (cond x ([] ∷ ps) (onto_first b ps))
split_lack byte b true ps e h = (refl, h)
split_lack byte b false ps e h = onto_lack byte b ps (e refl) h

pub own_lack : (byte : ℕ) (text : List ℕ) → Lack byte (parts_of byte text)
unfolding parts_of
own_lack byte [] = (refl, tt)
own_lack byte (b ∷ bs) = split_lack byte b (eqb b byte) (slice_split (λ c. eqb c byte) bs) (λ e. e) (own_lack byte bs)

pub other_lack : (byte separator : ℕ) (text : List ℕ) → has_byte byte text ≡ false → Lack byte (parts_of separator text)
unfolding parts_of
other_lack byte separator [] h = (refl, tt)
other_lack byte separator (b ∷ bs) h =
    let parts = either (eqb b byte) (has_byte byte bs) h in
    split_lack byte b (eqb b separator) (slice_split (λ c. eqb c separator) bs) (λ e. parts.0) (other_lack byte separator bs parts.1)

-- ---- lines lack the newline

record CutLacks (c : Cut) : Type 0 where
  lines : Lack 10 c.lines
  rest : has_byte 10 c.rest ≡ false

by_newline : (b : ℕ) (x : Bool) (ls : List (List ℕ)) (rest : List ℕ) → eqb b 10 ≡ x → Lack 10 ls → has_byte 10 rest ≡ false → CutLacks (cond x (record { lines = [] ∷ ls; rest = rest }) (onto b ls rest))
by_newline b true ls rest e h r = record { lines = (refl, h); rest = r }
by_newline b false [] rest e h r = record { lines = tt; rest = rw e r }
by_newline b false (l ∷ ls) rest e h r = record { lines = (rw e h.0, h.1); rest = r }

cut_lack : (text : List ℕ) → CutLacks (cut text)
unfolding cut
cut_lack [] = record { lines = tt; rest = refl }
cut_lack (b ∷ bs) = let more = cut_lack bs in by_newline b (eqb b 10) (cut bs).lines (cut bs).rest refl more.lines more.rest

lack_append : (byte : ℕ) (ls ms : List (List ℕ)) → Lack byte ls → Lack byte ms → Lack byte (ls ++ ms)
lack_append byte [] ms h k = k
lack_append byte (l ∷ ls) ms h k = (h.0, lack_append byte ls ms h.1 k)

lack_last : (rest : List ℕ) → has_byte 10 rest ≡ false → Lack 10 (last_line rest)
lack_last [] e = tt
lack_last (b ∷ bs) e = (e, tt)

pub lines_lack : (text : List ℕ) → Lack 10 (lines_of text)
unfolding lines_of
lines_lack text = let c = cut_lack text in lack_append 10 (cut text).lines (last_line (cut text).rest) c.lines (lack_last (cut text).rest c.rest)

-- ---- a line

part_fits : (part text : List ℕ) → has_byte 58 part ≡ false → has_byte 10 part ≡ false → part_in part ≡ Some text → IsPart text
part_fits [] text e f is = absurd cc
part_fits (b ∷ bs) text e f is = subst IsPart (some_same (b ∷ bs) text is) (record { filled = refl; colons = e; newlines = f })

parts_front : (o : Option (List ℕ)) (rest : Option (List (List ℕ))) (parts : List (List ℕ)) → ((p : List ℕ) → o ≡ Some p → IsPart p) → ((ps : List (List ℕ)) → rest ≡ Some ps → AllByRecursion IsPart ps)
    → put_before o rest ≡ Some parts → AllByRecursion IsPart parts
parts_front None rest parts first more e = absurd cc
parts_front (Some p) None parts first more e = absurd cc
parts_front (Some p) (Some ps) parts first more e = subst (AllByRecursion IsPart) (some_same (p ∷ ps) parts e) (first p refl, more ps refl)

parts_fit : (ps parts : List (List ℕ)) → Lack 58 ps → Lack 10 ps → all_in part_in ps ≡ Some parts → AllByRecursion IsPart parts
parts_fit [] parts e f is = subst (AllByRecursion IsPart) (some_same [] parts is) tt
parts_fit (p ∷ ps) parts e f is = parts_front (part_in p) (all_in part_in ps) parts (λ text. part_fits p text e.0 f.0) (λ more. parts_fit ps more e.1 f.1) is

named_fits : (o : Option (List ℕ)) (rest : Option (List (List ℕ))) (r : Remembered) → ((p : List ℕ) → o ≡ Some p → IsPart p) → ((ps : List (List ℕ)) → rest ≡ Some ps → AllByRecursion IsPart ps)
    → with_hashes o rest ≡ Some r → IsLine r
named_fits None rest r first more e = absurd cc
named_fits (Some p) None r first more e = absurd cc
named_fits (Some p) (Some ps) r first more e = subst IsLine (some_same (record { name = p; hashes = ps }) r e) (first p refl, more ps refl)

line_by : (ps : List (List ℕ)) (r : Remembered) → Lack 58 ps → Lack 10 ps → with_parts ps ≡ Some r → IsLine r
line_by [] r e f is = absurd cc
line_by (p ∷ ps) r e f is = named_fits (part_in p) (all_in part_in ps) r (λ text. part_fits p text e.0 f.0) (λ parts. parts_fit ps parts e.1 f.1) is

line_fits : (line : List ℕ) (r : Remembered) → has_byte 10 line ≡ false → remembered_in line ≡ Some r → IsLine r
line_fits line r lack is = line_by (parts_of 58 line) r (own_lack 58 line) (other_lack 10 58 line lack) is

-- ---- the file

lines_front : (o : Option Remembered) (rest : Option (List Remembered)) (history : List Remembered) → ((r : Remembered) → o ≡ Some r → IsLine r) → ((rs : List Remembered) → rest ≡ Some rs → AllByRecursion IsLine rs)
    → put_before o rest ≡ Some history → AllByRecursion IsLine history
lines_front None rest history first more e = absurd cc
lines_front (Some r) None history first more e = absurd cc
lines_front (Some r) (Some rs) history first more e = subst (AllByRecursion IsLine) (some_same (r ∷ rs) history e) (first r refl, more rs refl)

lines_fit : (lines : List (List ℕ)) (history : List Remembered) → Lack 10 lines → all_in remembered_in lines ≡ Some history → AllByRecursion IsLine history
lines_fit [] history lack e = subst (AllByRecursion IsLine) (some_same [] history e) tt
lines_fit (l ∷ ls) history lack e = lines_front (remembered_in l) (all_in remembered_in ls) history (λ r. line_fits l r lack.0) (λ more. lines_fit ls more lack.1) e

distinct_by : (history found : List Remembered) (b : Bool) → are_distinct history ≡ b → AllByRecursion IsLine history → cond b (Some history) None ≡ Some found → IsHistory found
distinct_by history found true d all e = subst IsHistory (some_same history found e) (record { lines = all; distinct = d })
distinct_by history found false d all e = absurd cc

whole_fits : (o : Option (List Remembered)) (history : List Remembered) → ((rs : List Remembered) → o ≡ Some rs → AllByRecursion IsLine rs) → if_distinct o ≡ Some history → IsHistory history
whole_fits None history lines e = absurd cc
whole_fits (Some rs) history lines e = distinct_by rs history (are_distinct rs) refl (lines rs refl) e

pub read_fits : (text : List ℕ) (history : List Remembered) → history_of text ≡ Some history → IsHistory history
unfolding history_of
read_fits text history e = whole_fits (all_in remembered_in (lines_of text)) history (λ rs. lines_fit (lines_of text) rs (lines_lack text)) e

pub history_fits : (file : Option (List ℕ)) (history : List Remembered) → history_on_file file ≡ Some history → IsHistory history
history_fits None history e = subst IsHistory (some_same [] history e) (record { lines = tt; distinct = refl })
history_fits (Some text) history e = read_fits text history e
