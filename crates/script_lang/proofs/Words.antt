-- The positions of the words of a line.
use Rattle.std.proofs.Common.{◌≡◌, ℕ, zero, suc, ◌+◌, ◌-◌, ◌<◌, ◌≤◌, Bool, true, false, ◌||◌, List, [], ◌∷◌, ◌++◌, length, take, drop, slice_get, get_or, Option, Some, None, option_map, nat_lt, nat_le, inl, inr, not, All, refl, sym, ap, ◌∙◌, arith, eqb, length-drop}
use Rattle.std.proofs.lemmas.Bool.{lt-ltb, le-ltb, lt-leb, le-leb, cases_lt}
use Rattle.std.specs.Option.{is_some, unwrap_or}
use Rattle.script_lang.specs.declared.place.Position.{Position}
use Rattle.script_lang.specs.Place.{is_text}
use Rattle.script_lang.specs.Cut.{first_word, word_at, wanted_of, most_of, has_its_words, IsPast}
use Rattle.std.proofs.lemmas.List.{take_all, drop-drop}
use Rattle.std.proofs.lemmas.List.Elements.{All-from_get_or}
use Rattle.std.proofs.lemmas.List.Splits.{slice_split_at, slice_split_none, length-slice_split, join_with_byte-slice_split}
use Rattle.std.specs.List.{join_with_byte, list_any}
use Rattle.pam_base.specs.Bytes.{has_byte, IsFirstPlace}
use Rattle.pam_base.specs.Words.{words_of}

either : (a b : Bool) → (a || b) ≡ false → (a ≡ false) × (b ≡ false)
either true b e = absurd cc
either false b e = (refl, e)

lacks_at : (byte : ℕ) (text : List ℕ) → has_byte byte text ≡ false → (k : ℕ) → k < length text → eqb (get_or text k 0) byte ≡ false
lacks_at byte [] e k lt = absurd (omega arith)
lacks_at byte (b ∷ bs) e zero lt = (either (eqb b byte) (has_byte byte bs) e).0
lacks_at byte (b ∷ bs) e (suc k) lt = lacks_at byte bs (either (eqb b byte) (has_byte byte bs) e).1 k (omega arith)

lacks : (byte : ℕ) (text : List ℕ) → has_byte byte text ≡ false → All (λ b. eqb b byte ≡ false) text
lacks byte text e = All-from_get_or (λ b. eqb b byte ≡ false) text 0 (lacks_at byte text e)

-- a word and a space before a line
pub words_of-word : (word more : List ℕ) → has_byte 32 word ≡ false → words_of (word ++ 32 ∷ more) ≡ word ∷ words_of more
unfolding words_of
words_of-word word more e = slice_split_at (λ b. eqb b 32) word 32 more (lacks 32 word e) refl

-- a line of one word
pub words_of-alone : (word : List ℕ) → has_byte 32 word ≡ false → words_of word ≡ word ∷ []
unfolding words_of
words_of-alone word e = slice_split_none (λ b. eqb b 32) word (lacks 32 word e)

-- each line has a word
pub has_word : (line : List ℕ) → 0 < length (words_of line)
unfolding words_of
has_word line = omega (arith, length-slice_split (λ b. eqb b 32) line)

-- the words, with the spaces between them, are the line
pub join-words_of : (line : List ℕ) → join_with_byte 32 (words_of line) ≡ line
unfolding words_of
join-words_of line = join_with_byte-slice_split 32 line

-- the first word of a line with a space, and the words of what follows it
pub words_of-first : (line : List ℕ) (n : ℕ) → IsFirstPlace (Some n) 32 line → words_of line ≡ take n line ∷ words_of (drop (n + 1) line)
words_of-first line n at = ap words_of at.2 ∙ words_of-word (take n line) (drop (n + 1) line) at.1

-- what follows the first word
pub past_first : (line : List ℕ) (n : ℕ) → IsFirstPlace (Some n) 32 line
    → words_of (take (length line - (n + 1)) (drop (n + 1) line)) ≡ drop 1 (words_of line)
past_first line n at =
    let whole : take (length line - (n + 1)) (drop (n + 1) line) ≡ drop (n + 1) line = take_all (length line - (n + 1)) (drop (n + 1) line) (omega (arith, length-drop (n + 1) line)) in
    rw (whole, words_of-first line n at) refl

-- nothing follows the only word
pub after_alone : (line : List ℕ) → IsFirstPlace None 32 line → length (words_of line) ≤ 1
after_alone line none = rw (words_of-alone line none) (omega arith)

-- the words after one more word
pub after_next : (words left more : List (List ℕ)) (k : ℕ) → left ≡ drop k words → more ≡ drop 1 left → more ≡ drop (k + 1) words
after_next words left more k is next = rw (next, is, drop-drop 1 k words) refl

-- no word follows the last one
pub none_past : (words left : List (List ℕ)) (k n : ℕ) → left ≡ drop k words → length left ≤ 1 → k < n → length words ≤ n
none_past words left k n is last lt = omega (arith, last, ap length is, length-drop k words)

-- whether something is left after n words
pub is_after : (rest : Option (List ℕ)) (line : List ℕ) (n : ℕ) → IsPast rest n (words_of line) → is_some rest ≡ nat_lt n (length (words_of line))
is_after None line n is = sym (le-ltb n (length (words_of line)) is)
is_after (Some rest) line n is =
    sym (lt-ltb n (length (words_of line)) (omega (arith, has_word rest, ap length is, length-drop n (words_of line))))

pub is_some-map : {A B : Type 0} (f : A → B) (o : Option A) → is_some o ≡ is_some (option_map f o)
is_some-map f None = refl
is_some-map f (Some a) = refl

pub flipped : (a b : Bool) → a ≡ not b → b ≡ not a
flipped a true e = rw e refl
flipped a false e = rw e refl

not_lt : (a b : ℕ) → not (nat_lt a b) ≡ nat_le b a
not_lt a b = elim (cases_lt a b) [ inl h ↦ rw (lt-ltb a b h, lt-leb b a h) refl | inr h ↦ rw (le-ltb a b h, le-leb b a h) refl ]

get-drop : (words : List (List ℕ)) (k : ℕ) → slice_get (drop k words) 0 ≡ slice_get words k
get-drop [] zero = refl
get-drop [] (suc k) = refl
get-drop (w ∷ ws) zero = refl
get-drop (w ∷ ws) (suc k) = get-drop ws k

first_of : (words : List (List ℕ)) → 0 < length words → Some (unwrap_or (slice_get words 0) []) ≡ slice_get words 0
first_of [] lt = absurd (omega arith)
first_of (w ∷ ws) lt = refl

-- the word at a place, if this is left after the words before it
module _ (place : Position) (before : ℕ) (line rest : List ℕ) (is : words_of rest ≡ drop before (words_of line)) where
  within : nat_lt before (length (words_of line)) ≡ true
  within = lt-ltb before (length (words_of line)) (omega (arith, has_word rest, ap length is, length-drop before (words_of line)))

  pub word_at-text : is_text place ≡ true → ◌≡◌ {A = Option (List ℕ)} (Some rest) (word_at place before (words_of line))
  word_at-text e = rw (e, within, ← is, join-words_of rest) refl

  pub word_at-other : is_text place ≡ false → ◌≡◌ {A = Option (List ℕ)} (Some (first_word rest)) (word_at place before (words_of line))
  word_at-other e = rw e (first_of (words_of rest) (has_word rest) ∙ ap (λ (words : List (List ℕ)). slice_get words 0) is ∙ get-drop (words_of line) before)

-- whether a line has its words, by what follows the required words and by what follows the last
-- allowed one
module _ (places : List Position) (line : List ℕ) (wanted : ℕ) (least : Option (List ℕ)) (is_wanted : wanted ≡ wanted_of places) (are_past : IsPast least wanted (words_of line)) where
  enough : is_some least ≡ nat_lt (wanted_of places) (length (words_of line))
  enough = is_after least line wanted are_past ∙ ap (λ (n : ℕ). nat_lt n (length (words_of line))) is_wanted

  pub too_few : is_some least ≡ false → false ≡ has_its_words places (words_of line)
  too_few e = let no = sym enough ∙ e in rw no refl

  pub text_fits : is_some least ≡ true → list_any is_text places ≡ true → true ≡ has_its_words places (words_of line)
  text_fits e t = let yes = sym enough ∙ e in rw (yes, t) refl

  pub words_fit : (most : Option (List ℕ)) (n : ℕ) → n ≡ most_of places → is_some least ≡ true → list_any is_text places ≡ false
      → IsPast most (n + 1) (words_of line) → not (is_some most) ≡ has_its_words places (words_of line)
  words_fit most n m e t b =
      let yes = sym enough ∙ e in
      let few = ap not (is_after most line (n + 1) b) ∙ not_lt (n + 1) (length (words_of line)) in
      rw (yes, t, few, m) refl
