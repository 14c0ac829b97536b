-- What is written is read as itself.
use Rattle.std.proofs.Common.{◌≡◌, ℕ, suc, ◌+◌, ◌-◌, ◌*◌, ◌/◌, ◌%◌, ◌^◌, ◌<◌, ◌≤◌, Bool, true, false, ◌&&◌, ◌||◌, ◌==◌, eqb, nat_eq, List, [], ◌∷◌, ◌++◌, length, take, drop, flat_map, codes, decimal, position, Some, refl, sym, ap, ◌∙◌, append_assoc, arith, add-one, length-append}
use Rattle.std.proofs.lemmas.Bool.{lt-ltb, le-leb, ne_eqb}
use Rattle.std.proofs.lemmas.Fmt.{decimal_by_steps, decimal_nonempty, length-decimal-le}
use Rattle.std.proofs.lemmas.List.{append-nil}
use Rattle.std.proofs.lemmas.List.Folds.{list_all-append}
use Rattle.std.proofs.lemmas.List.Sums.{fold-append}
use Rattle.std.specs.Char.{is_ascii_digit}
use Rattle.std.specs.List.{AllByRecursion, ends_with, list_all, position_or_len}
use Rattle.pam_base.specs.Bytes.{has_byte}
use Rattle.pam_base.specs.Lines.{cut, lines_of, lines_of-line}
use Rattle.pam_base.specs.Number.{value_of_digits}
use Rattle.mod_tally.specs.declared.tally.Failure.{Failure}
use Rattle.mod_tally.specs.declared.tally.Version.TheVariants.{Two}
use Rattle.mod_tally.specs.Tally.{IsFailure, IsOrigin, all_in, failure_in, failure_line, failure_text, failures_of, is_kind, moment_of, source_text, tally_text, with_origin}
use Rattle.mod_tally.proofs.SourceSpellingFacts.{lacks_both, spelled-lacks, unspelled-spelled}

-- ---- decimal digits

is_digit-digit : (d : ℕ) → d < 10 → is_ascii_digit (48 + d) ≡ true
is_digit-digit d lt = rw (le-leb 48 (48 + d) (omega arith), le-leb (48 + d) 57 (omega arith)) refl

are_digits : List ℕ → Bool
are_digits digits = list_all is_ascii_digit digits

record Writes (n : ℕ) (digits : List ℕ) : Type 0 where
  all : are_digits digits ≡ true
  value : value_of_digits digits ≡ n

one_digit : (n : ℕ) → n < 10 → Writes n ((48 + n) ∷ [])
unfolding are_digits
one_digit n lt = record { all = rw (is_digit-digit n lt) refl; value = omega arith }

one_more : (n : ℕ) (digits : List ℕ) → 10 ≤ n → Writes (n / 10) digits → Writes n (digits ++ ((48 + n % 10) ∷ []))
unfolding are_digits
one_more n digits le w =
    record {
      all = list_all-append is_ascii_digit digits ((48 + n % 10) ∷ []) ∙ rw (w.all, is_digit-digit (n % 10) (omega arith)) refl;
      value =
          fold-append (λ (value digit : ℕ). 10 * value + (digit - 48)) 0 digits ((48 + n % 10) ∷ [])
          ∙ ap (λ (value : ℕ). 10 * value + (48 + n % 10 - 48)) w.value
          ∙ omega arith;
    }

writes : (n : ℕ) → n < 2 ^ 64 → Writes n (decimal n)
writes n lt = decimal_by_steps Writes one_digit one_more n lt

both : (a b : Bool) → (a && b) ≡ true → (a ≡ true) × (b ≡ true)
both true b e = (refl, e)
both false b e = absurd cc

digit_not : (x byte : ℕ) → is_ascii_digit x ≡ true → is_ascii_digit byte ≡ false → eqb x byte ≡ false
digit_not x byte one none = ne_eqb x byte (λ e. let differ : ◌≡◌ {A = Bool} true false = sym one ∙ ap is_ascii_digit e ∙ none in cc)

digits_lack : (byte : ℕ) (digits : List ℕ) → is_ascii_digit byte ≡ false → are_digits digits ≡ true → has_byte byte digits ≡ false
unfolding are_digits
digits_lack byte [] none e = refl
digits_lack byte (d ∷ ds) none e =
    let parts = both (is_ascii_digit d) (are_digits ds) e in
    rw (digit_not d byte parts.0 none, digits_lack byte ds none parts.1) refl

module _ (n : ℕ) (small : n < 10 ^ 13) where
  written : Writes n (decimal n)
  written = writes n (omega arith)

  decimal_lacks : (byte : ℕ) → is_ascii_digit byte ≡ false → has_byte byte (decimal n) ≡ false
  decimal_lacks byte none = digits_lack byte (decimal n) none written.all

  moment-decimal : moment_of (decimal n) ≡ Some n
  unfolding are_digits
  moment-decimal =
      let some : 0 < length (decimal n) = decimal_nonempty n (omega arith) in
      let few : length (decimal n) ≤ 13 = length-decimal-le 13 n (omega arith) small (omega arith) in
      rw (lt-ltb 0 (length (decimal n)) some, le-leb (length (decimal n)) 13 few, written.all, written.value) refl

-- ---- a line, cut at its first space

front : (a b : List ℕ) → take (length a) (a ++ b) ≡ a
front [] b = refl
front (x ∷ a) b = ap (λ (l : List ℕ). x ∷ l) (front a b)

past_end : (a b : List ℕ) → drop (length a) (a ++ b) ≡ b
past_end [] b = refl
past_end (x ∷ a) b = past_end a b

after_next : (a : List ℕ) (x : ℕ) (b : List ℕ) → drop (suc (length a)) (a ++ x ∷ b) ≡ b
after_next [] x b = refl
after_next (y ∷ a) x b = after_next a x b

past_one : (a : List ℕ) (x : ℕ) (b : List ℕ) → drop (length a + 1) (a ++ x ∷ b) ≡ b
past_one a x b = rw (add-one (length a)) (after_next a x b)

either : (t : Bool) (rest : Bool) → (t || rest) ≡ false → (t ≡ false) × (rest ≡ false)
either true rest e = absurd cc
either false rest e = (refl, e)

first_space : (a b : List ℕ) → has_byte 32 a ≡ false → position_or_len (λ c. c == 32) (a ++ 32 ∷ b) ≡ length a
first_space [] b e = refl
first_space (x ∷ a) b e =
    let parts = either (eqb x 32) (has_byte 32 a) e in
    rw (parts.0, first_space a b parts.1) (omega arith)

position-space : (a b : List ℕ) → has_byte 32 a ≡ false → position (λ c. c == 32) (a ++ 32 ∷ b) ≡ Some (length a)
position-space a b e =
    let lt : length a < length (a ++ 32 ∷ b) = omega (arith, length-append a (32 ∷ b)) in
    rw (first_space a b e, lt-ltb (length a) (length (a ++ 32 ∷ b)) lt) refl

-- ---- a failure

origin-read : (moment kind : ℕ) (source : List ℕ) → IsOrigin kind source → with_origin (kind ∷ source_text source) (Some moment) ≡ Some (record { moment = moment; kind = kind; source = source })
origin-read moment kind [] is = rw is refl
origin-read moment kind (b ∷ bs) is = rw (is.0, unspelled-spelled (b ∷ bs) is.1) refl

failure-read : (f : Failure) → IsFailure f → failure_in Two (failure_text f) ≡ Some f
failure-read f is =
    let d = decimal f.moment in
    let rest = f.kind ∷ source_text f.source in
    rw (position-space d rest (decimal_lacks f.moment is.moment 32 refl), front d (32 ∷ rest), past_one d 32 rest, moment-decimal f.moment is.moment) (origin-read f.moment f.kind f.source is.origin)

kind_lacks : (kind : ℕ) (source : List ℕ) → IsOrigin kind source → eqb kind 10 ≡ false
kind_lacks kind [] is = rw is refl
kind_lacks kind (b ∷ bs) is = ne_eqb kind 10 (λ e. let differ : ◌≡◌ {A = Bool} true false = sym is.0 ∙ ap is_kind e in cc)

source_lacks : (source : List ℕ) → has_byte 10 (source_text source) ≡ false
source_lacks [] = refl
source_lacks (b ∷ bs) = spelled-lacks 10 (b ∷ bs) (omega arith)

failure_lacks : (f : Failure) → IsFailure f → has_byte 10 (failure_text f) ≡ false
failure_lacks f is = lacks_both 10 (decimal f.moment) (32 ∷ f.kind ∷ source_text f.source) (decimal_lacks f.moment is.moment 10 refl) (rw (kind_lacks f.kind f.source is.origin, source_lacks f.source) refl)

-- ---- the file

no_lines : lines_of [] ≡ []
unfolding lines_of cut
no_lines = refl

lines-read : (fs : List Failure) → AllByRecursion IsFailure fs → all_in (failure_in Two) (lines_of (flat_map failure_line fs)) ≡ Some fs
lines-read [] all = rw no_lines refl
lines-read (f ∷ fs) all =
    let rest = flat_map failure_line fs in
    rw (append_assoc (failure_text f) (10 ∷ []) rest, lines_of-line (failure_text f) rest (failure_lacks f all.0), failure-read f all.0, lines-read fs all.1) refl

-- a text that ends with a newline
abbrev pub Ends : List ℕ → Type 0
Ends text = (line : List ℕ) × (text ≡ line ++ 10 ∷ [])

all_end : (fs : List Failure) (before : List ℕ) → Ends before → Ends (before ++ flat_map failure_line fs)
all_end [] before e = (e.0, append-nil before ∙ e.1)
all_end (f ∷ fs) before e =
    let next = all_end fs (before ++ failure_line f) (before ++ failure_text f, sym (append_assoc before (failure_text f) (10 ∷ []))) in
    (next.0, sym (append_assoc before (failure_line f) (flat_map failure_line fs)) ∙ next.1)

ends-with : (text : List ℕ) → Ends text → ends_with nat_eq text (10 ∷ []) ≡ true
ends-with text e =
    let place : length (e.0 ++ 10 ∷ []) - 1 ≡ length e.0 = omega (arith, length-append e.0 (10 ∷ [])) in
    rw (e.1, place, past_end e.0 (10 ∷ [])) refl

pub tally-read : (fs : List Failure) → AllByRecursion IsFailure fs → failures_of (tally_text fs) ≡ Some fs
unfolding failures_of tally_text
tally-read fs all =
    let rest = flat_map failure_line fs in
    rw (ends-with (codes "faillock 2\n" ++ rest) (all_end fs (codes "faillock 2\n") (codes "faillock 2", refl)), lines_of-line (codes "faillock 2") rest refl) (lines-read fs all)
