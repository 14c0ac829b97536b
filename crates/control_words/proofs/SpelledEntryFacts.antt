-- The entries of a text that is spelled as entries: white space, a name, `=` between white space, and an
-- action, again and again.
use Rattle.std.proofs.Common.{◌≡◌, ◌<◌, ℕ, suc, ◌+◌, Bool, true, false, ◌&&◌, ◌||◌, eqb, not, List, [], ◌∷◌, ◌++◌, length, refl, sym, ap, ◌∙◌, arith}
use Rattle.std.specs.List.{before_first, list_all, position_or_len}
use Rattle.std.proofs.lemmas.List.{append-nil}
use Rattle.pam_base.specs.White.{is_white}
use Rattle.control_words.specs.Entries.{ControlPair, FirstEntry, after_space, ends_name, entries_in, first_entry, from_first, is_other, with_action, with_name}
use Rattle.control_words.proofs.FirstEntryFacts.{entries-after_space, entries-first, from_first-here, from_first-later, none-left, not-true}

-- ---- a run of bytes, and a byte that ends it

both : (a b : Bool) → (a && b) ≡ true → (a ≡ true) × (b ≡ true)
both true b e = (refl, e)
both false b e = absurd cc

-- whether a text is empty or its first byte passes the test
abbrev stops : (ℕ → Bool) → List ℕ → Bool
stops test [] = true
stops test (b ∷ bs) = test b

module _ (test : ℕ → Bool) where
  before_first-here : (more : List ℕ) → stops test more ≡ true → before_first test more ≡ []
  before_first-here [] e = refl
  before_first-here (b ∷ bs) e = rw e refl

  before_first-later : (b : ℕ) (bs : List ℕ) → test b ≡ false → before_first test (b ∷ bs) ≡ b ∷ before_first test bs
  before_first-later b bs e =
      let n : 1 + position_or_len test bs ≡ suc (position_or_len test bs) = omega arith in
      rw (e, n) refl

  rest-here : (more : List ℕ) → stops test more ≡ true → from_first test more ≡ more
  rest-here [] e = refl
  rest-here (b ∷ bs) e = from_first-here test b bs e

  up_to : (run more : List ℕ) → list_all (λ b. not (test b)) run ≡ true → stops test more ≡ true
      → (before_first test (run ++ more) ≡ run) × (from_first test (run ++ more) ≡ more)
  up_to [] more all ends = (before_first-here more ends, rest-here more ends)
  up_to (b ∷ bs) more all ends =
      let parts = both (not (test b)) (list_all (λ c. not (test c)) bs) all in
      let here = not-true (test b) parts.0 in
      let later = up_to bs more parts.1 ends in
      (before_first-later b (bs ++ more) here ∙ ap (λ (t : List ℕ). b ∷ t) later.0, from_first-later test b (bs ++ more) here ∙ later.1)

-- white space is passed over
no_other : (b : Bool) → b ≡ true → not (not b) ≡ true
no_other b e = ap (λ (c : Bool). not (not c)) e

blank-run : (blank : List ℕ) → list_all is_white blank ≡ true → list_all (λ b. not (is_other b)) blank ≡ true
blank-run [] e = refl
blank-run (b ∷ bs) e =
    let parts = both (is_white b) (list_all is_white bs) e in
    rw (no_other (is_white b) parts.0) (blank-run bs parts.1)

pub after_blank : (blank more : List ℕ) → list_all is_white blank ≡ true → stops is_other more ≡ true → after_space (blank ++ more) ≡ more
after_blank blank more e ends = (up_to is_other blank more (blank-run blank e) ends).1

neither-space : (b : Bool) (c : Bool) → not (b || c) ≡ true → not b ≡ true
neither-space true c e = absurd cc
neither-space false c e = refl

-- ---- white space alone has no entries

pub entries-blank : (blank : List ℕ) → list_all is_white blank ≡ true → entries_in blank ≡ []
entries-blank blank e =
    let all : after_space (blank ++ []) ≡ [] = after_blank blank [] e refl in
    entries-after_space blank ∙ ap (λ (t : List ℕ). entries_in (after_space t)) (sym (append-nil blank)) ∙ ap entries_in all ∙ none-left [] refl

-- ---- an entry is its name and its action, whatever white space is around them

module _ (before left right more : List ℕ) (n a : ℕ) (ns as_ : List ℕ) (before_blank : list_all is_white before ≡ true) (left_blank : list_all is_white left ≡ true) (right_blank : list_all is_white right ≡ true)
    (named : list_all (λ b. not (ends_name b)) (n ∷ ns) ≡ true) (acting : list_all is_other (a ∷ as_) ≡ true) (ends : stops is_white more ≡ true) where
  abbrev after_equals : List ℕ
  after_equals = right ++ ((a ∷ as_) ++ more)

  abbrev spelled : List ℕ
  spelled = (n ∷ ns) ++ (left ++ 61 ∷ after_equals)

  name_other : is_other n ≡ true
  name_other = neither-space (is_white n) (eqb n 61) (both (not (ends_name n)) (list_all (λ b. not (ends_name b)) ns) named).0

  left_ends : (l : List ℕ) → list_all is_white l ≡ true → stops ends_name (l ++ 61 ∷ after_equals) ≡ true
  left_ends [] e = refl
  left_ends (b ∷ bs) e = rw (both (is_white b) (list_all is_white bs) e).0 refl

  action_of_it : with_action (n ∷ ns) ((a ∷ as_) ++ more) ≡ record { entry = record { name = n ∷ ns; action = a ∷ as_ }; rest = more }
  action_of_it =
      let cut = up_to is_white (a ∷ as_) more acting ends in
      λ i. record { entry = record { name = n ∷ ns; action = cut.0 i }; rest = cut.1 i }

  first_of_it : first_entry spelled ≡ record { entry = record { name = n ∷ ns; action = a ∷ as_ }; rest = more }
  first_of_it =
      let cut = up_to ends_name (n ∷ ns) (left ++ 61 ∷ after_equals) named (left_ends left left_blank) in
      let equals : after_space (left ++ 61 ∷ after_equals) ≡ 61 ∷ after_equals = after_blank left (61 ∷ after_equals) left_blank refl in
      let action : after_space after_equals ≡ (a ∷ as_) ++ more = after_blank right ((a ∷ as_) ++ more) right_blank (both (is_other a) (list_all is_other as_) acting).0 in
      let named_it : first_entry spelled ≡ with_name (n ∷ ns) (after_space (left ++ 61 ∷ after_equals)) = λ i. with_name (cut.0 i) (after_space (cut.1 i)) in
      named_it ∙ ap (with_name (n ∷ ns)) equals ∙ ap (with_action (n ∷ ns)) action ∙ action_of_it

  pub entries-spelled : entries_in (before ++ spelled) ≡ record { name = n ∷ ns; action = a ∷ as_ } ∷ entries_in more
  entries-spelled =
      let some : 0 < length spelled = omega arith in
      entries-after_space (before ++ spelled) ∙ ap entries_in (after_blank before spelled before_blank name_other) ∙ entries-first spelled some name_other
      ∙ ap (λ (f : FirstEntry). f.entry ∷ entries_in (after_space f.rest)) first_of_it
      ∙ ap (λ (es : List ControlPair). record { name = n ∷ ns; action = a ∷ as_ } ∷ es) (sym (entries-after_space more))
