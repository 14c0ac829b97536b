-- The entries of a text are cut off its beginning, one after another.
use Rattle.std.proofs.Common.{◌≡◌, ◌<◌, ◌≤◌, ℕ, zero, suc, ◌+◌, ◌-◌, Bool, true, false, not, eqb, List, [], ◌∷◌, length, drop, refl, sym, ap, subst, ◌∙◌, arith, length-drop}
use Rattle.std.specs.List.{position_or_len, before_first}
use Rattle.std.proofs.lemmas.List.{drop-drop, nil_from_length}
use Rattle.std.proofs.lemmas.List.Sums.{prefix_len-le-length}
use Rattle.pam_base.specs.White.{is_white}
use Rattle.control_words.specs.Entries.{ControlPair, FirstEntry, after_space, ends_name, entries_after, entries_in, first_entry, from_first, is_other, with_name}

-- ---- the ends of a text

record IsEnd (text rest : List ℕ) : Type 0 where
  places : ℕ
  inside : places ≤ length text
  is : rest ≡ drop places text

all-end : (text : List ℕ) → IsEnd text text
all-end text = record { places = 0; inside = omega arith; is = refl }

tail-end : (b : ℕ) (bs rest : List ℕ) → IsEnd bs rest → IsEnd (b ∷ bs) rest
tail-end b bs rest e = record { places = suc e.places; inside = omega (arith, e.inside); is = e.is }

end-end : (text middle rest : List ℕ) → IsEnd text middle → IsEnd middle rest → IsEnd text rest
end-end text middle rest a b =
    let long : length middle ≡ length text - a.places = ap length a.is ∙ length-drop a.places text in
    record {
      places = a.places + b.places;
      inside = omega (arith, long, a.inside, b.inside);
      is = b.is ∙ ap (drop b.places) a.is ∙ drop-drop b.places a.places text;
    }

end-shorter : (text rest : List ℕ) → IsEnd text rest → length rest ≤ length text
end-shorter text rest e = omega (arith, ap length e.is ∙ length-drop e.places text)

end-dropped : (text rest : List ℕ) → IsEnd text rest → drop (length text - length rest) text ≡ rest
end-dropped text rest e =
    let n : length text - length rest ≡ e.places = omega (arith, ap length e.is ∙ length-drop e.places text, e.inside) in
    ap (λ (k : ℕ). drop k text) n ∙ sym e.is

from_first-end : (test : ℕ → Bool) (text : List ℕ) → IsEnd text (from_first test text)
from_first-end test text = record { places = position_or_len test text; inside = prefix_len-le-length _ text; is = refl }

-- ---- the first entry

-- what follows an action
after_equals : (bs : List ℕ) → IsEnd bs (from_first is_white (after_space bs))
after_equals bs = end-end bs (after_space bs) _ (from_first-end is_other bs) (from_first-end is_white (after_space bs))

module _ (name : List ℕ) where
  with_name-by : (b : ℕ) (bs : List ℕ) (is : Bool) → eqb b 61 ≡ is → IsEnd (b ∷ bs) (with_name name (b ∷ bs)).rest
  with_name-by b bs true e = rw e (tail-end b bs _ (after_equals bs))
  with_name-by b bs false e = rw e (all-end (b ∷ bs))

  with_name-end : (text : List ℕ) → IsEnd text (with_name name text).rest
  with_name-end [] = all-end []
  with_name-end (b ∷ bs) = with_name-by b bs (eqb b 61) refl

-- a search whose test the first byte fails continues after it
pub from_first-later : (test : ℕ → Bool) (b : ℕ) (bs : List ℕ) → test b ≡ false → from_first test (b ∷ bs) ≡ from_first test bs
from_first-later test b bs e =
    let n : 1 + position_or_len test bs ≡ suc (position_or_len test bs) = omega arith in
    rw (e, n) refl

pub from_first-here : (test : ℕ → Bool) (b : ℕ) (bs : List ℕ) → test b ≡ true → from_first test (b ∷ bs) ≡ b ∷ bs
from_first-here test b bs e = rw e refl

module _ (b : ℕ) (bs : List ℕ) (other : is_white b ≡ false) where
  space-here : after_space (b ∷ bs) ≡ b ∷ bs
  space-here = from_first-here is_other b bs (ap not other)

  name : List ℕ
  name = before_first ends_name (b ∷ bs)

  rest_at : List ℕ → List ℕ
  rest_at text = (with_name name (after_space text)).rest

  equals_first : eqb b 61 ≡ true → (first_entry (b ∷ bs)).rest ≡ from_first is_white (after_space bs)
  unfolding name rest_at
  equals_first e =
      let ends : ends_name b ≡ true = rw (other, e) refl in
      let here : after_space (from_first ends_name (b ∷ bs)) ≡ b ∷ bs = ap after_space (from_first-here ends_name b bs ends) ∙ space-here in
      let equals : (with_name name (b ∷ bs)).rest ≡ from_first is_white (after_space bs) = rw e refl in
      ap (λ (t : List ℕ). (with_name name t).rest) here ∙ equals

  -- at least one byte is taken
  first_entry-by : (is : Bool) → eqb b 61 ≡ is → IsEnd bs (first_entry (b ∷ bs)).rest
  unfolding name rest_at
  first_entry-by true e = subst (λ (t : List ℕ). IsEnd bs t) (sym (equals_first e)) (after_equals bs)
  first_entry-by false e =
      let goes_on : ends_name b ≡ false = rw (other, e) refl in
      let later : from_first ends_name (b ∷ bs) ≡ from_first ends_name bs = from_first-later ends_name b bs goes_on in
      let middle : IsEnd bs (after_space (from_first ends_name bs)) = end-end bs (from_first ends_name bs) _ (from_first-end ends_name bs) (from_first-end is_other (from_first ends_name bs)) in
      let end : IsEnd bs (rest_at (from_first ends_name bs)) = end-end bs _ _ middle (with_name-end name (after_space (from_first ends_name bs))) in
      subst (λ (t : List ℕ). IsEnd bs t) (sym (ap rest_at later)) end

  first_entry-end : IsEnd bs (first_entry (b ∷ bs)).rest
  first_entry-end = first_entry-by (eqb b 61) refl

-- ---- the entries

entries_after-dropped : (passed : ℕ) (text : List ℕ) → entries_after passed text ≡ entries_after 0 (drop passed text)
unfolding entries_after
entries_after-dropped zero text = refl
entries_after-dropped (suc passed) [] = refl
entries_after-dropped (suc passed) (b ∷ bs) = entries_after-dropped passed bs

entries-none : entries_in [] ≡ []
unfolding entries_in entries_after
entries-none = refl

entries-found : (b : ℕ) (bs : List ℕ) (found : FirstEntry) → is_white b ≡ false → first_entry (b ∷ bs) ≡ found
    → entries_after 0 (b ∷ bs) ≡ found.entry ∷ entries_after (length bs - length found.rest) bs
unfolding entries_after
entries-found b bs found other is = rw (other, entries_after) (ap (λ (f : FirstEntry). f.entry ∷ entries_after (length bs - length f.rest) bs) is)

entries-other : (b : ℕ) (bs : List ℕ) → is_white b ≡ false → entries_in (b ∷ bs) ≡ (first_entry (b ∷ bs)).entry ∷ entries_in (first_entry (b ∷ bs)).rest
unfolding entries_in
entries-other b bs other =
    let rest : List ℕ = (first_entry (b ∷ bs)).rest in
    let left : entries_after (length bs - length rest) bs ≡ entries_after 0 rest = entries_after-dropped (length bs - length rest) bs ∙ ap (entries_after 0) (end-dropped bs rest (first_entry-end b bs other)) in
    entries-found b bs (first_entry (b ∷ bs)) other refl ∙ ap (λ (es : List ControlPair). (first_entry (b ∷ bs)).entry ∷ es) left

entries-later : (b : ℕ) (bs : List ℕ) → is_white b ≡ true → entries_in (b ∷ bs) ≡ entries_in bs
unfolding entries_in entries_after
entries-later b bs space = rw (space, entries_after) refl

-- whether the text doesn't begin with white space
abbrev pub starts : List ℕ → Bool
starts [] = true
starts (b ∷ bs) = is_other b

entries-after_space-by : (b : ℕ) (bs : List ℕ) (is : Bool) → is_white b ≡ is → entries_in bs ≡ entries_in (after_space bs)
    → entries_in (b ∷ bs) ≡ entries_in (after_space (b ∷ bs))
entries-after_space-by b bs true e h = entries-later b bs e ∙ h ∙ ap entries_in (sym (from_first-later is_other b bs (ap not e)))
entries-after_space-by b bs false e h = ap entries_in (sym (from_first-here is_other b bs (ap not e)))

-- white space at the beginning isn't part of an entry
pub entries-after_space : (text : List ℕ) → entries_in text ≡ entries_in (after_space text)
entries-after_space [] = refl
entries-after_space (b ∷ bs) = entries-after_space-by b bs (is_white b) refl (entries-after_space bs)

pub not-true : (b : Bool) → not b ≡ true → b ≡ false
not-true true e = absurd cc
not-true false e = refl

starts-by : (b : ℕ) (bs : List ℕ) (is : Bool) → is_white b ≡ is → starts (after_space bs) ≡ true → starts (after_space (b ∷ bs)) ≡ true
starts-by b bs true e h = ap starts (from_first-later is_other b bs (ap not e)) ∙ h
starts-by b bs false e h = ap starts (from_first-here is_other b bs (ap not e)) ∙ ap not e

pub starts-after_space : (text : List ℕ) → starts (after_space text) ≡ true
starts-after_space [] = refl
starts-after_space (b ∷ bs) = starts-by b bs (is_white b) refl (starts-after_space bs)

-- the first entry of a text that starts with none, and those after it
pub entries-first : (text : List ℕ) → 0 < length text → starts text ≡ true
    → entries_in text ≡ (first_entry text).entry ∷ entries_in (after_space (first_entry text).rest)
entries-first [] some other = absurd (omega (arith, some))
entries-first (b ∷ bs) some other =
    entries-other b bs (not-true (is_white b) other) ∙ ap (λ (es : List ControlPair). (first_entry (b ∷ bs)).entry ∷ es) (entries-after_space (first_entry (b ∷ bs)).rest)

pub rest-shorter : (text : List ℕ) → 0 < length text → starts text ≡ true → length (after_space (first_entry text).rest) < length text
rest-shorter [] some other = absurd (omega (arith, some))
rest-shorter (b ∷ bs) some other =
    let rest : List ℕ = (first_entry (b ∷ bs)).rest in
    let a : length rest ≤ length bs = end-shorter bs rest (first_entry-end b bs (not-true (is_white b) other)) in
    let c : length (after_space rest) ≤ length rest = end-shorter rest (after_space rest) (from_first-end is_other rest) in
    omega (arith, a, c)

pub none-left : (text : List ℕ) → length text ≡ 0 → entries_in text ≡ []
none-left text e = ap entries_in (nil_from_length text e) ∙ entries-none
