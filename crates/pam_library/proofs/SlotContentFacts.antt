-- Slots, and their contents.
use Rattle.std.proofs.Common.{◌≡◌, ℕ, zero, suc, ◌-◌, ◌<◌, ◌≤◌, ◌&&◌, Bool, true, false, List, [], ◌∷◌, ◌++◌, length, map, Option, Some, None, option_map, slice_get, slice_set, get_or, refl, sym, ap, ap₂, ◌∙◌, arith, IsTrue}
use Rattle.std.specs.List.{list_all}
use Rattle.std.proofs.lemmas.List.{append-nil}
use Rattle.std.proofs.lemmas.Option.{slice_get-map, slice_get-get_or, slice_get_past}
use Rattle.pam_library.specs.Slots.{PlainSlot, slot_at, with_slot, is_open, is_open_at, NoneIsOpen}

module _ {A : Type 0} (plain : A → PlainSlot) where
  pub held_at : (slots : List A) (number : ℕ) (found : Option A) → 0 < number → slice_get slots (number - 1) ≡ found
      → slot_at (map plain slots) number ≡ option_map plain found
  held_at slots zero found positive is = absurd (omega arith)
  held_at slots (suc i) found positive is =
      let e : suc i - 1 ≡ i = omega arith in
      slice_get-map plain slots i ∙ ap (option_map plain) (ap (slice_get slots) (sym e) ∙ is)

  pub held_in : (slots : List A) (number : ℕ) (s : A) → 0 < number → number - 1 < length slots → s ≡ get_or slots (number - 1) s
      → slot_at (map plain slots) number ≡ Some (plain s)
  held_in slots number s positive below is = held_at slots number (Some s) positive (slice_get-get_or slots (number - 1) s below ∙ ap Some (sym is))

  pub open_found : (slots : List A) (number : ℕ) (s : A) (result : Bool) → 0 < number → number - 1 < length slots → s ≡ get_or slots (number - 1) s
      → result ≡ is_open (plain s) → result ≡ is_open_at (slot_at (map plain slots) number)
  open_found slots number s result positive below is same = same ∙ sym (ap is_open_at (held_in slots number s positive below is))

  pub none_found : (slots : List A) (number : ℕ) → 0 < number → length slots ≤ number - 1 → false ≡ is_open_at (slot_at (map plain slots) number)
  none_found slots number positive past = sym (ap is_open_at (held_at slots number None positive (slice_get_past slots (number - 1) past)))

  map-slice_set : (slots : List A) (i : ℕ) (s : A) → map plain (slice_set slots i s) ≡ slice_set (map plain slots) i (plain s)
  map-slice_set [] i s = refl
  map-slice_set (x ∷ slots) zero s = refl
  map-slice_set (x ∷ slots) (suc i) s = ap (λ (t : List PlainSlot). plain x ∷ t) (map-slice_set slots i s)

  -- the slot of a number gets another content
  pub put_at : (slots : List A) (number : ℕ) (s : A) (now : PlainSlot) → 0 < number → plain s ≡ now
      → map plain (slice_set slots (number - 1) s) ≡ with_slot (map plain slots) number now
  put_at slots zero s now positive is = absurd (omega arith)
  put_at slots (suc i) s now positive is =
      let e : suc i - 1 ≡ i = omega arith in
      ap (λ (k : ℕ). map plain (slice_set slots k s)) e ∙ map-slice_set slots i s ∙ ap (slice_set (map plain slots) i) is

  -- the last of some slots, none of which is open
  pub last_closed : (slots : List A) (s : A) → NoneIsOpen (map plain (slots ++ s ∷ [])) → is_open (plain s) ≡ false
  last_closed [] s all = all.0
  last_closed (x ∷ slots) s all = last_closed slots s all.1

  pub others_closed : (slots : List A) (s : A) → NoneIsOpen (map plain (slots ++ s ∷ [])) → NoneIsOpen (map plain slots)
  others_closed [] s all = tt
  others_closed (x ∷ slots) s all = (all.0, others_closed slots s all.1)

-- the results of mapping an empty list
module _ {A B C : Type 0} (make : B → A) (of : A → C) (from : B → C) (same : (b : B) → of (make b) ≡ from b) where
  map-made : (bs : List B) → map of (map make bs) ≡ map from bs
  map-made [] = refl
  map-made (b ∷ bs) = ap₂ (λ (x : C) (xs : List C). x ∷ xs) (same b) (map-made bs)

  pub made_all : (all left : List B) (made : List A) → left ≡ [] → made ++ map make left ≡ map make all → map of made ≡ map from all
  made_all all left made none whole =
      ap (map of) (sym (append-nil made) ∙ ap (λ (t : List B). made ++ map make t) (sym none) ∙ whole) ∙ map-made all

list_all-map : {A : Type 0} (test : A → Bool) (xs : List A) → list_all test xs ≡ list_all (λ (b : Bool). b) (map test xs)
list_all-map test [] = refl
list_all-map test (x ∷ xs) = ap (λ (b : Bool). test x && b) (list_all-map test xs)

pub made_test : {A B : Type 0} (make : B → A) (test : A → Bool) (from : B → Bool) → ((b : B) → test (make b) ≡ from b)
    → (all left : List B) (made : List A) → left ≡ [] → made ++ map make left ≡ map make all → list_all test made ≡ list_all from all
made_test make test from same all left made none whole =
    list_all-map test made ∙ ap (list_all (λ (b : Bool). b)) (made_all make test from same all left made none whole) ∙ sym (list_all-map from all)

pub empty_of : {A : Type 0} (xs : List A) → length xs ≡ 0 → xs ≡ []
empty_of [] none = refl
empty_of (x ∷ xs) none = absurd (omega arith)

-- ---- a slot gets another content

module _ {A : Type 0} (plain : A → PlainSlot) where
  was_held : (slots : List A) (number : ℕ) (was : A) (slot : PlainSlot) → 0 < number → number - 1 < length slots → was ≡ get_or slots (number - 1) was
      → slot_at (map plain slots) number ≡ Some slot → slot ≡ plain was
  was_held slots number was slot positive below is at =
      let e : Some slot ≡ Some (plain was) = sym at ∙ held_in plain slots number was positive below is in
      cc

  pub put_slots : (slots : List A) (number : ℕ) (was s : A) (with_it : PlainSlot → PlainSlot) (slot : PlainSlot) → 0 < number
      → number - 1 < length slots → was ≡ get_or slots (number - 1) was
      → plain s ≡ with_it (plain was) → slot_at (map plain slots) number ≡ Some slot → map plain (slice_set slots (number - 1) s) ≡ with_slot (map plain slots) number (with_it slot)
  put_slots slots number was s with_it slot positive below is same at =
      put_at plain slots number s (with_it slot) positive (same ∙ ap with_it (sym (was_held slots number was slot positive below is at)))

  pub put_old : {B : Type 0} (of : PlainSlot → B) (slots : List A) (number : ℕ) (was : A) (slot : PlainSlot) (b : B) → 0 < number
      → number - 1 < length slots → was ≡ get_or slots (number - 1) was
      → b ≡ of (plain was) → slot_at (map plain slots) number ≡ Some slot → b ≡ of slot
  put_old of slots number was slot b positive below is same at = same ∙ ap of (sym (was_held slots number was slot positive below is at))

and_left : (a b : Bool) → (a && b) ≡ true → a ≡ true
and_left true b both = refl
and_left false b both = both

and_right : (a b : Bool) → (a && b) ≡ true → b ≡ true
and_right true b both = both
and_right false b both = absurd (cc)

and_both : (a b : Bool) → a ≡ true → b ≡ true → (a && b) ≡ true
and_both true b left right = right
and_both false b left right = left

module _ {A : Type 0} (test : A → Bool) where
  all_at : (slots : List A) (i : ℕ) (was : A) → list_all test slots ≡ true → i < length slots → was ≡ get_or slots i was → test was ≡ true
  all_at [] i was all below is = absurd (omega arith)
  all_at (x ∷ slots) zero was all below is = ap test is ∙ and_left (test x) (list_all test slots) all
  all_at (x ∷ slots) (suc i) was all below is = all_at slots i was (and_right (test x) (list_all test slots) all) (omega arith) is

  all_put : (slots : List A) (i : ℕ) (s : A) → list_all test slots ≡ true → test s ≡ true → list_all test (slice_set slots i s) ≡ true
  all_put [] i s all one = refl
  all_put (x ∷ slots) zero s all one = and_both (test s) (list_all test slots) one (and_right (test x) (list_all test slots) all)
  all_put (x ∷ slots) (suc i) s all one = and_both (test x) (list_all test (slice_set slots i s)) (and_left (test x) (list_all test slots) all) (all_put slots i s (and_right (test x) (list_all test slots) all) one)

  pub put_tells : (slots : List A) (i : ℕ) (was s : A) (told result : Bool) → i < length slots → was ≡ get_or slots i was → test s ≡ told → result ≡ test was
      → IsTrue (list_all test slots && told) → IsTrue (list_all test (slice_set slots i s) && result)
  put_tells slots i was s told result below is new old both =
      let all = and_left (list_all test slots) told both in
      and_both (list_all test (slice_set slots i s)) result (all_put slots i s all (new ∙ and_right (list_all test slots) told both)) (old ∙ all_at slots i was all below is)
