-- The first open slot, and its end.
use Rattle.std.proofs.Common.{◌≢◌, ◌++◌, slice_set, ◌≡◌, ◌↔◌, ℕ, zero, suc, ◌+◌, ◌-◌, ◌<◌, ◌≤◌, true, false, List, [], ◌∷◌, length, map, drop, get_or, slice_get, Option, Some, None, IsNone, is_some, option_map, refl, sym, ap, ◌∙◌, subst, arith, add-one}
use Rattle.std.specs.List.{SwappedAt}
use Rattle.std.proofs.lemmas.List.{drop_all, drop_more, length-map}
use Rattle.std.proofs.lemmas.Option.{slice_get-map, slice_get_read, slice_get_within, some_pair_parts}
use Rattle.pam_base.specs.declared.call.AppCall.TheVariants as calls
use Rattle.data_cleanup.specs.DataList.{PlainDataList}
use Rattle.data_cleanup.specs.Ledger.{AreNumbered}
use Rattle.data_cleanup.specs.Cleanup.{Notes}
use Rattle.data_cleanup.specs.Due.{ends}
use Rattle.data_cleanup.specs.Modelled.{clean_list}
use Rattle.data_cleanup.specs.Moves.{Moves}
use Rattle.pam_handle.specs.pam_room.specs.State.{PlainWorld}
use Rattle.pam_handle.specs.End.{world_after_end}
use Rattle.pam_library.specs.Sound.{IsSound}
use Rattle.pam_library.specs.AnyWorld.{IsEndOf}
use Rattle.pam_library.proofs.SlotStepFacts.{IsPut, IsReplaced, MovesLaw, SoundLaw, swapped_back}
use Rattle.pam_handle.specs.Handle.{PlainHandle}
use Rattle.pam_library.specs.Slots.{NoneIsOpen, PlainSlot, closed, data_in, opened, is_open, lists_of, slot_at, with_slot}
use Rattle.pam_library.specs.Closing.{ClosedOne, ClosesAs, IsFirstOpen, closed_one, ended_at, first_open}

next_of : (n : ℕ) (slot : PlainSlot) (rest : List PlainSlot) → is_open slot ≡ false → first_open n (slot ∷ rest) ≡ first_open (n + 1) rest
next_of n (closed conv) rest e = refl
next_of n (opened h) rest e = absurd (cc)

found_of : (n : ℕ) (slot : PlainSlot) (rest : List PlainSlot) → is_open slot ≡ true → (h : PlainHandle) × (first_open n (slot ∷ rest) ≡ Some (n, h))
found_of n (closed conv) rest e = absurd (cc)
found_of n (opened h) rest e = (h, refl)

module _ {A : Type 0} (f : A → PlainSlot) where
  pub looks_first : (xs : List A) → first_open 1 (map f xs) ≡ first_open (0 + 1) (map f (drop 0 xs))
  looks_first [] = refl
  looks_first (x ∷ xs) = refl

  more_of : (xs : List A) (i : ℕ) (x : A) → i < length xs → x ≡ get_or xs i x → map f (drop i xs) ≡ f x ∷ map f (drop (i + 1) xs)
  more_of xs i x within is = ap (map f) (drop_more xs i x within) ∙ ap (λ (y : A). f y ∷ map f (drop (i + 1) xs)) (sym is)

  pub looks_on : (xs : List A) (i : ℕ) (x : A) (found : Option (ℕ × PlainHandle)) → i < length xs → x ≡ get_or xs i x → is_open (f x) ≡ false
      → found ≡ first_open (i + 1) (map f (drop i xs)) → found ≡ first_open (i + 1 + 1) (map f (drop (i + 1) xs))
  looks_on xs i x found within is shut e = e ∙ ap (first_open (i + 1)) (more_of xs i x within is) ∙ next_of (i + 1) (f x) (map f (drop (i + 1) xs)) shut

  pub finds : (xs : List A) (i : ℕ) (x : A) (found : Option (ℕ × PlainHandle)) → i < length xs → x ≡ get_or xs i x → is_open (f x) ≡ true
      → found ≡ first_open (i + 1) (map f (drop i xs)) → IsFirstOpen (Some i) found
  finds xs i x found within is there e =
      let h = found_of (i + 1) (f x) (map f (drop (i + 1) xs)) there in
      (h.0, e ∙ ap (first_open (i + 1)) (more_of xs i x within is) ∙ h.1)

  pub finds_none : (xs : List A) (i : ℕ) (found : Option (ℕ × PlainHandle)) → length xs ≤ i → found ≡ first_open (i + 1) (map f (drop i xs))
      → IsFirstOpen None found
  finds_none xs i found past e = e ∙ ap (λ (l : List A). first_open (i + 1) (map f l)) (drop_all i xs past)

-- ---- the slot that was found

no_less : (n : ℕ) (slots : List PlainSlot) (m : ℕ) (h : PlainHandle) → first_open n slots ≡ Some (m, h) → n ≤ m
no_less n [] m h e = absurd (cc)
no_less n (closed conv ∷ slots) m h e = let f = no_less (n + 1) slots m h e in omega arith
no_less n (opened k ∷ slots) m h e = let f : n ≡ m = (some_pair_parts n m k h e).0 in omega arith

open_from : (n : ℕ) (slots : List PlainSlot) (i : ℕ) (h : PlainHandle) → first_open n slots ≡ Some (n + i, h) → slice_get slots i ≡ Some (opened h)
open_from n [] i h e = absurd (cc)
open_from n (closed conv ∷ slots) zero h e = let f = no_less (n + 1) slots (n + 0) h e in absurd (omega arith)
open_from n (closed conv ∷ slots) (suc i) h e =
    let same : n + suc i ≡ n + 1 + i = omega arith in
    open_from (n + 1) slots i h (e ∙ ap (λ (m : ℕ). Some (m, h)) same)
open_from n (opened k ∷ slots) zero h e = let f : k ≡ h = (some_pair_parts n (n + 0) k h e).1 in ap (λ (j : PlainHandle). Some (opened j)) f
open_from n (opened k ∷ slots) (suc i) h e = let f : n ≡ n + suc i = (some_pair_parts n (n + suc i) k h e).0 in absurd (omega arith)

-- the first open slot, counted from 0
open_place : (slots : List PlainSlot) (place : ℕ) (h : PlainHandle) → first_open 1 slots ≡ Some (place + 1, h) → slice_get slots place ≡ Some (opened h)
open_place slots place h e = let same : place + 1 ≡ 1 + place = omega arith in open_from 1 slots place h (e ∙ ap (λ (m : ℕ). Some (m, h)) same)

at_place : (slots : List PlainSlot) (place : ℕ) → slot_at slots (place + 1) ≡ slice_get slots place
at_place slots place = ap (slot_at slots) (add-one place)

not_none : (slots : List PlainSlot) (i : ℕ) (h : PlainHandle) → slice_get slots i ≡ Some (opened h) → NoneIsOpen slots → ⊥
not_none [] i h is all = cc
not_none (slot ∷ slots) zero h is all = let e : slot ≡ opened h = cc in let f : true ≡ false = sym (ap is_open e) ∙ all.0 in cc
not_none (slot ∷ slots) (suc i) h is all = not_none slots i h is all.1

none_open : (n : ℕ) (slots : List PlainSlot) → first_open n slots ≡ None → NoneIsOpen slots
none_open n [] e = tt
none_open n (closed conv ∷ slots) e = (refl, none_open (n + 1) slots e)
none_open n (opened h ∷ slots) e = absurd (cc)

-- what was found, if anything was
pub found_at : (result : Option ℕ) (found : Option (ℕ × PlainHandle)) (place : ℕ) → IsFirstOpen result found → result ≡ Some place
    → (h : PlainHandle) × (found ≡ Some (place + 1, h))
found_at result found place is e = subst (λ (r : Option ℕ). IsFirstOpen r found) e is

pub found_none : (result : Option ℕ) (found : Option (ℕ × PlainHandle)) → IsFirstOpen result found → result ≡ None → found ≡ None
found_none result found is e = subst (λ (r : Option ℕ). IsFirstOpen r found) e is

-- the slot holds the transaction that was found
pub found_as : (slot : PlainSlot) (found : Option (ℕ × PlainHandle)) (number : ℕ) (h k : PlainHandle) → slot ≡ opened h → slot ≡ opened k
    → found ≡ Some (number, h) → found ≡ Some (number, k)
found_as slot found number h k is also e = let same : h ≡ k = cc in e ∙ ap (λ (j : PlainHandle). Some (number, j)) same

pub put_as : (slots next : List PlainSlot) (number : ℕ) (old was new now : PlainSlot) → IsPut slots next number old new → old ≡ was → new ≡ now
    → IsPut slots next number was now
put_as slots next number old was new now is e f = record { there = is.there ∙ ap Some e; next_is = is.next_is ∙ ap (with_slot slots number) f }

module _ {A : Type 0} (f : A → PlainSlot) (xs : List A) (place : ℕ) (h : PlainHandle) (found : first_open 1 (map f xs) ≡ Some (place + 1, h)) where
  pub place_within : place < length xs
  place_within =
      let e : slice_get (map f xs) place ≡ Some (opened h) = open_place (map f xs) place h found in
      omega (arith, slice_get_within (map f xs) place (opened h) e, length-map xs f)

  pub place_is : (x : A) → x ≡ get_or xs place x → f x ≡ opened h
  place_is x is =
      let e : Some (f x) ≡ Some (opened h) = sym (slice_get-map f xs place ∙ ap (option_map f) (slice_get_read xs (length xs) place x refl place_within is)) ∙ open_place (map f xs) place h found in
      cc

  pub place_there : slot_at (map f xs) (place + 1) ≡ Some (opened h)
  place_there = at_place (map f xs) place ∙ open_place (map f xs) place h found

  -- the slot now holds something else
  pub put_there : (rest ys : List A) (x y : A) → x ≡ get_or xs place x → length rest + 1 ≡ length xs → length ys ≡ length rest + 1
      → ((d : A) → place + 1 < length xs → get_or rest place d ≡ get_or xs (length xs - 1) d)
      → ((k : ℕ) (d : A) → k ≢ place → k + 1 < length xs → get_or rest k d ≡ get_or xs k d)
      → SwappedAt (rest ++ y ∷ []) ys place (length rest) → IsReplaced xs ys (place + 1) x y
  put_there rest ys x y read shorter long last others swapped =
      let same : place ≡ place + 1 - 1 = omega arith in
      record {
        there = ap (slice_get xs) (sym same) ∙ slice_get_read xs (length xs) place x refl place_within read;
        ys_is = swapped_back xs rest ys place y place_within shorter long last others swapped ∙ ap (λ (i : ℕ). slice_set xs i y) same;
      }

-- ---- the end of a transaction in its slot

module _ (note : Notes) (names : List (List ℕ)) (modules : ℕ) (slots next : List PlainSlot) (number : ℕ) (h : PlainHandle) (status : ℕ) (w v : PlainWorld)
    (is : IsPut slots next number (opened h) (closed h.room.conv)) (sound : IsSound names modules slots w.process.ledger) (world : v ≡ world_after_end note status h w) (numbered : AreNumbered 0 v.process.ledger.births) where
  own_number : h.room.transaction.datums.handle ≡ number
  own_number = ap (λ (l : PlainDataList). l.handle) (sym (ap (data_in number) is.there) ∙ sound.held.clean number)

  end_spends : IsEndOf note status h.room.transaction.datums w.process.ledger (clean_list number []) v.process.ledger
  end_spends = record { ledger = ap (λ (u : PlainWorld). u.process.ledger) world; list = ap (λ (n : ℕ). clean_list n []) (sym own_number) }

  pub end_sound : SoundLaw → IsSound names modules next v.process.ledger
  end_sound law = subst (λ (s : List PlainSlot). IsSound names modules s v.process.ledger) (sym is.next_is)
      (law note names modules slots number (opened h) (closed h.room.conv) (calls.End status) w.process.ledger v.process.ledger sound is.there tt end_spends numbered)

  pub end_moves : MovesLaw → Moves note 17 (ends number status ∷ []) w.process.ledger (lists_of slots) v.process.ledger (lists_of next)
  end_moves law = subst (λ (s : List PlainSlot). Moves note 17 (ends number status ∷ []) w.process.ledger (lists_of slots) v.process.ledger (lists_of s)) (sym is.next_is)
      (law note names modules slots number (opened h) (closed h.room.conv) (calls.End status) w.process.ledger v.process.ledger sound is.there tt end_spends numbered)

module _ (note : Notes) (status : ℕ) (slots : List PlainSlot) (w : PlainWorld) where
  closed_by : (found : Option (ℕ × PlainHandle)) → first_open 1 slots ≡ found → closed_one note status slots w ≡ option_map (ended_at note status slots w) found
  unfolding closed_one
  closed_by found e = ap (option_map (ended_at note status slots w)) e

  pub closes_none : (answer : Option ℕ) → answer ≡ None → first_open 1 slots ≡ None → ClosesAs (closed_one note status slots w) answer slots w slots w
  closes_none answer is e = subst (λ (c : Option ClosedOne). ClosesAs c answer slots w slots w) (sym (closed_by None e)) (is, refl, refl)

  pub closes_one : (next : List PlainSlot) (number : ℕ) (h : PlainHandle) (v : PlainWorld) → first_open 1 slots ≡ Some (number, h)
      → next ≡ with_slot slots number (closed h.room.conv) → v ≡ world_after_end note status h w
      → ClosesAs (closed_one note status slots w) (Some number) slots w next v
  closes_one next number h v e next_is world = subst (λ (c : Option ClosedOne). ClosesAs c (Some number) slots w next v) (sym (closed_by (Some (number, h)) e)) (refl, next_is, world)

pub some_is_open : (slots : List PlainSlot) (place : ℕ) (h : PlainHandle) (n : ℕ) → first_open 1 slots ≡ Some (place + 1, h)
    → IsNone (Some n) ↔ NoneIsOpen slots
some_is_open slots place h n e = (λ (o : IsNone (Some n)). absurd (cc), λ (all : NoneIsOpen slots). absurd (not_none slots place h (open_place slots place h e) all))

pub none_is_open : (slots : List PlainSlot) {X : Type 0} (o : Option X) → first_open 1 slots ≡ None → o ≡ None → IsNone o ↔ NoneIsOpen slots
none_is_open slots o e is = (λ (n : IsNone o). none_open 1 slots e, λ (all : NoneIsOpen slots). ap is_some is)
