-- The nine fields of a line of the shadow file, two of which are changed.
use Rattle.std.proofs.Common.{◌≡◌, ℕ, ◌+◌, ◌-◌, ◌*◌, ◌/◌, ◌%◌, ◌^◌, ◌<◌, ◌≤◌, Bool, true, false, cond, ◌&&◌, ◌==◌, eqb, List, [], ◌∷◌, ◌++◌, length, drop, slice_index_or, Option, Some, None, decimal, refl, sym, ap, ◌∙◌, subst, arith}
use Rattle.std.specs.Char.{is_ascii_digit}
use Rattle.std.specs.List.{list_all}
use Rattle.std.proofs.lemmas.Bool.{and_parts, le-leb, lt-ltb, ne_eqb}
use Rattle.std.proofs.lemmas.Bool.Decides.{nat_tests}
use Rattle.std.proofs.lemmas.Fmt.{decimal_by_steps, decimal_nonempty, length-decimal-le}
use Rattle.std.proofs.lemmas.List.Folds.{list_all-append}
use Rattle.std.proofs.lemmas.List.Sums.{fold-append}
use Rattle.pam_base.specs.Bytes.{has_byte}
use Rattle.pam_base.specs.Number.{number_of_word, value_of_digits}
use Rattle.account_db.specs.declared.shadow.Shadow.{Shadow}
use Rattle.account_db.specs.Replace.{renewed}
use Rattle.account_db.specs.Shadow.{is_days}

-- ---- a number in decimal digits

are_digits : List ℕ → Bool
are_digits digits = list_all is_ascii_digit digits

record Writes (n : ℕ) (digits : List ℕ) : Type 0 where
  all : are_digits digits ≡ true
  value : value_of_digits digits ≡ n

is_digit-digit : (d : ℕ) → d < 10 → is_ascii_digit (48 + d) ≡ true
is_digit-digit d lt = rw (le-leb 48 (48 + d) (omega arith), le-leb (48 + d) 57 (omega arith)) refl

one_digit : (n : ℕ) → n < 10 → Writes n ((48 + n) ∷ [])
unfolding are_digits
one_digit n lt = record { all = rw (is_digit-digit n lt) refl; value = omega arith }

one_more : (n : ℕ) (digits : List ℕ) → 10 ≤ n → Writes (n / 10) digits → Writes n (digits ++ ((48 + n % 10) ∷ []))
unfolding are_digits
one_more n digits le w =
    record {
      all = list_all-append is_ascii_digit digits ((48 + n % 10) ∷ []) ∙ rw (w.all, is_digit-digit (n % 10) (omega arith)) refl;
      value =
          fold-append (λ (value digit : ℕ). 10 * value + (digit - 48)) 0 digits ((48 + n % 10) ∷ [])
          ∙ ap (λ (value : ℕ). 10 * value + (48 + n % 10 - 48)) w.value
          ∙ omega arith;
    }

digit_not : (x byte : ℕ) → is_ascii_digit x ≡ true → is_ascii_digit byte ≡ false → eqb x byte ≡ false
digit_not x byte one none = ne_eqb x byte (λ e. let differ : ◌≡◌ {A = Bool} true false = sym one ∙ ap is_ascii_digit e ∙ none in cc)

digits_lack : (byte : ℕ) (digits : List ℕ) → is_ascii_digit byte ≡ false → are_digits digits ≡ true → has_byte byte digits ≡ false
unfolding are_digits
digits_lack byte [] none e = refl
digits_lack byte (d ∷ ds) none e =
    let parts = and_parts (is_ascii_digit d) (are_digits ds) e in
    rw (digit_not d byte parts.0 none) (digits_lack byte ds none parts.1)

module _ (n : ℕ) (small : n < 10 ^ 9) where
  written : Writes n (decimal n)
  written = decimal_by_steps Writes one_digit one_more n (omega arith)

  pub decimal_lacks : (byte : ℕ) → is_ascii_digit byte ≡ false → has_byte byte (decimal n) ≡ false
  decimal_lacks byte none = digits_lack byte (decimal n) none written.all

  few : length (decimal n) ≤ 9
  few = length-decimal-le 9 n (omega arith) small (omega arith)

  pub are_its_days : is_days (decimal n) ≡ true
  unfolding are_digits
  are_its_days = rw (le-leb (length (decimal n)) 9 few, written.all) refl

  pub is_its_number : number_of_word (decimal n) ≡ Some n
  unfolding are_digits
  is_its_number =
      rw (lt-ltb 0 (length (decimal n)) (decimal_nonempty n (omega arith)), le-leb (length (decimal n)) 10 (omega (arith, few)), written.all, written.value, lt-ltb n (2 ^ 32) (omega arith)) refl

-- ---- nine fields

record Nine (fs : List (List ℕ)) : Type 0 where
  a : List ℕ
  b : List ℕ
  c : List ℕ
  d : List ℕ
  e : List ℕ
  f : List ℕ
  g : List ℕ
  h : List ℕ
  i : List ℕ
  is : fs ≡ a ∷ b ∷ c ∷ d ∷ e ∷ f ∷ g ∷ h ∷ i ∷ []

nine_of : (fs : List (List ℕ)) → length fs ≡ 9 → Nine fs
nine_of (a ∷ b ∷ c ∷ d ∷ e ∷ f ∷ g ∷ h ∷ i ∷ []) n = record { a = a; b = b; c = c; d = d; e = e; f = f; g = g; h = h; i = i; is = refl }
nine_of (a ∷ b ∷ c ∷ d ∷ e ∷ f ∷ g ∷ h ∷ i ∷ j ∷ js) n = absurd (omega arith)
nine_of (a ∷ b ∷ c ∷ d ∷ e ∷ f ∷ g ∷ h ∷ []) n = absurd (omega arith)
nine_of (a ∷ b ∷ c ∷ d ∷ e ∷ f ∷ g ∷ []) n = absurd (omega arith)
nine_of (a ∷ b ∷ c ∷ d ∷ e ∷ f ∷ []) n = absurd (omega arith)
nine_of (a ∷ b ∷ c ∷ d ∷ e ∷ []) n = absurd (omega arith)
nine_of (a ∷ b ∷ c ∷ d ∷ []) n = absurd (omega arith)
nine_of (a ∷ b ∷ c ∷ []) n = absurd (omega arith)
nine_of (a ∷ b ∷ []) n = absurd (omega arith)
nine_of (a ∷ []) n = absurd (omega arith)
nine_of [] n = absurd (omega arith)

-- the entry of a line with these fields
abbrev pub shadow_from : List (List ℕ) → Option Shadow
shadow_from fs =
    cond (length fs == 9 && (is_days (slice_index_or fs 2 []) && is_days (slice_index_or fs 3 []) && is_days (slice_index_or fs 4 []) && is_days (slice_index_or fs 5 []) && is_days (slice_index_or fs 6 []) && is_days (slice_index_or fs 7 []))) (Some (record {
      name = slice_index_or fs 0 [];
      hash = slice_index_or fs 1 [];
      last_change = number_of_word (slice_index_or fs 2 []);
      min = number_of_word (slice_index_or fs 3 []);
      max = number_of_word (slice_index_or fs 4 []);
      warn = number_of_word (slice_index_or fs 5 []);
      inactive = number_of_word (slice_index_or fs 6 []);
      expire = number_of_word (slice_index_or fs 7 []);
      reserved = slice_index_or fs 8 [];
    })) None

picked : (x : Bool) (r e : Shadow) → cond x (Some r) None ≡ Some e → (x ≡ true) × (r ≡ e)
picked true r e h = (refl, cc)
picked false r e h = absurd cc

is_nine : (fs : List (List ℕ)) (e : Shadow) → shadow_from fs ≡ Some e → Nine fs
is_nine fs e h =
    let found = picked _ _ e h in
    let both = and_parts (length fs == 9) _ found.0 in
    nine_of fs (let n : length fs ≡ 9 = grind (arith, nat_tests, both.0) in n)

module _ (hash word : List ℕ) (day : ℕ) (days : is_days word ≡ true) (number : number_of_word word ≡ Some day) where
  nine_renewed : (a b c d e f g h i : List ℕ) (s : Shadow) → shadow_from (a ∷ b ∷ c ∷ d ∷ e ∷ f ∷ g ∷ h ∷ i ∷ []) ≡ Some s
      → shadow_from (a ∷ hash ∷ word ∷ d ∷ e ∷ f ∷ g ∷ h ∷ i ∷ []) ≡ Some (renewed hash day s)
  nine_renewed a b c d e f g h i s eq =
      let found = picked (is_days c && is_days d && is_days e && is_days f && is_days g && is_days h) _ s eq in
      let sixth = and_parts (is_days c && is_days d && is_days e && is_days f && is_days g) (is_days h) found.0 in
      let fifth = and_parts (is_days c && is_days d && is_days e && is_days f) (is_days g) sixth.0 in
      let fourth = and_parts (is_days c && is_days d && is_days e) (is_days f) fifth.0 in
      let third = and_parts (is_days c && is_days d) (is_days e) fourth.0 in
      let second = and_parts (is_days c) (is_days d) third.0 in
      rw (days, second.1, third.1, fourth.1, fifth.1, sixth.1, number) (ap (λ (x : Shadow). Some (renewed hash day x)) found.1)

  pub from_renewed : (fs : List (List ℕ)) (s : Shadow) → shadow_from fs ≡ Some s → shadow_from (slice_index_or fs 0 [] ∷ hash ∷ word ∷ drop 3 fs) ≡ Some (renewed hash day s)
  from_renewed fs s eq =
      let n = is_nine fs s eq in
      let R : List (List ℕ) → Type 0 = λ xs. shadow_from xs ≡ Some s → shadow_from (slice_index_or xs 0 [] ∷ hash ∷ word ∷ drop 3 xs) ≡ Some (renewed hash day s) in
      subst R (sym n.is) (nine_renewed n.a n.b n.c n.d n.e n.f n.g n.h n.i s) eq
