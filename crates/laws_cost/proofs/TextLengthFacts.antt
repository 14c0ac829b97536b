-- How long the texts are.
use Rattle.std.proofs.Common.{◌≡◌, ℕ, zero, suc, ◌+◌, ◌*◌, ◌/◌, ◌%◌, ◌<◌, ◌≤◌, Bool, true, false, if◌then◌else◌, List, [], ◌∷◌, ◌++◌}
use Rattle.std.proofs.Common.{length, map, reverse, refl, sym, ◌∙◌, ap, arith, append_assoc, append-nil, length-append}
use Rattle.std.specs.Prelude.{◌==◌, slice_index}
use Rattle.std.specs.List.{fold, repeat}
use Rattle.std.specs.Int.Digits.{digits_of}
use Rattle.std.proofs.lemmas.List.{length-take-le, map-append}
use Rattle.std.proofs.lemmas.List.Concat.{length-flat_map}
use Rattle.sha_crypt.specs.Mixing.{by_digits, digest_a, digest_b, repeat_to, round_text}
use Rattle.laws_cost.specs.Digests.{Noted, noted_mixed, noted_rounds}
use Rattle.laws_cost.specs.Costs.{digits_length, round_length, round_lengths, text_lengths}

-- ---- copies of a text

length_copies : (n : ℕ) (text : List ℕ) → length (repeat n text) ≡ n * length text
length_copies zero text = omega arith
length_copies (suc n) text = length-append text (repeat n text) ∙ ap (λ (m : ℕ). length text + m) (length_copies n text) ∙ omega arith

enough : (size n : ℕ) → 0 < size → n ≤ (n / size + 1) * size
enough size n some = omega arith

length_filled : (text : List ℕ) (n : ℕ) → 0 < length text → length (repeat_to text n) ≡ n
length_filled text n some =
    let copies = length_copies (n / length text + 1) text in
    let reach = enough (length text) n some in
    length-take-le n (repeat (n / length text + 1) text) (omega (arith, copies, reach))

-- ---- a text for each digit

if_length : (b : Bool) (x y : List ℕ) → length (if b then x else y) ≡ (if b then length x else length y)
if_length true x y = refl
if_length false x y = refl

same_sum : (f g : ℕ → ℕ) → ((x : ℕ) → f x ≡ g x) → (n : ℕ) (xs : List ℕ) → fold (λ a x. a + f x) n xs ≡ fold (λ a x. a + g x) n xs
same_sum f g same n [] = refl
same_sum f g same n (x ∷ xs) = ap (λ (m : ℕ). fold (λ a x. a + f x) (n + m) xs) (same x) ∙ same_sum f g same (n + g x) xs

digits_are : (b key : List ℕ) (n size : ℕ) → length b ≡ size → length key ≡ n → length (by_digits b key n) ≡ digits_length size n
digits_are b key n size is_b is_key =
    length-flat_map (λ digit. if digit == 1 then b else key) (reverse (digits_of 2 n))
    ∙ same_sum (λ digit. length (if digit == 1 then b else key)) (λ digit. if digit == 1 then size else n)
    (λ digit. if_length (digit == 1) b key ∙ ap (λ (m : ℕ). if digit == 1 then m else length key) is_b ∙ ap (λ (m : ℕ). if digit == 1 then size else m) is_key)
    0 (reverse (digits_of 2 n))

-- ---- a round

three : (x y z : List ℕ) → length (x ++ y ++ z) ≡ length x + length y + length z
three x y z = length-append (x ++ y) z ∙ ap (λ (m : ℕ). m + length z) (length-append x y)

four : (w x y z : List ℕ) → length (w ++ x ++ y ++ z) ≡ length w + length x + length y + length z
four w x y z = length-append (w ++ x ++ y) z ∙ ap (λ (m : ℕ). m + length z) (three w x y)

round_by : (odd third seventh : Bool) (p q c : List ℕ)
    → length ((if odd then p else c) ++ (if third then [] else q) ++ (if seventh then [] else p) ++ (if odd then c else p))
    ≡ length c + length p + (if third then 0 else length q) + (if seventh then 0 else length p)
round_by true true true p q c = four p [] [] c ∙ omega arith
round_by true true false p q c = four p [] p c ∙ omega arith
round_by true false true p q c = four p q [] c ∙ omega arith
round_by true false false p q c = four p q p c ∙ omega arith
round_by false true true p q c = four c [] [] p ∙ omega arith
round_by false true false p q c = four c [] p p ∙ omega arith
round_by false false true p q c = four c q [] p ∙ omega arith
round_by false false false p q c = four c q p p ∙ omega arith

round_is : (i size key salt : ℕ) (p q c : List ℕ) → length p ≡ key → length q ≡ salt → length c ≡ size
    → length (round_text i p q c) ≡ round_length size key salt i
round_is i size key salt p q c is_p is_q is_c =
    round_by (i % 2 == 1) (i % 3 == 0) (i % 7 == 0) p q c
    ∙ ap (λ (m : ℕ). m + length p + (if i % 3 == 0 then 0 else length q) + (if i % 7 == 0 then 0 else length p)) is_c
    ∙ ap (λ (m : ℕ). size + m + (if i % 3 == 0 then 0 else length q) + (if i % 7 == 0 then 0 else m)) is_p
    ∙ ap (λ (m : ℕ). size + key + (if i % 3 == 0 then 0 else m) + (if i % 7 == 0 then 0 else key)) is_q

-- ---- all texts

same_four : (a b c d a' b' c' d' : ℕ) (more : List ℕ) → a ≡ a' → b ≡ b' → c ≡ c' → d ≡ d' → a ∷ b ∷ c ∷ d ∷ more ≡ a' ∷ b' ∷ c' ∷ d' ∷ more
same_four a b c d a' b' c' d' more ea eb ec ed = cc

module _ (H : List ℕ → List ℕ) (size : ℕ) (sized : (text : List ℕ) → length (H text) ≡ size) (some : 0 < size) where
  rounds_sized : (p q : List ℕ) (a : Noted) (i : ℕ) → length a.value ≡ size → length (noted_rounds H p q a i).value ≡ size
  unfolding noted_rounds
  rounds_sized p q a zero is = is
  rounds_sized p q a (suc i) is = sized _

  rounds_lengths : (p q : List ℕ) (a : Noted) (i key salt : ℕ) → length p ≡ key → length q ≡ salt → length a.value ≡ size
      → map length (noted_rounds H p q a i).texts ≡ map length a.texts ++ round_lengths size key salt i
  unfolding noted_rounds
  rounds_lengths p q a zero key salt is_p is_q is_a = sym (append-nil (map length a.texts))
  rounds_lengths p q a (suc i) key salt is_p is_q is_a =
      let c = noted_rounds H p q a i in
      let text : List ℕ = round_text i p q c.value in
      map-append length c.texts (text ∷ [])
      ∙ ap (λ (xs : List ℕ). xs ++ length text ∷ []) (rounds_lengths p q a i key salt is_p is_q is_a)
      ∙ ap (λ (n : ℕ). (map length a.texts ++ round_lengths size key salt i) ++ n ∷ [])
      (round_is i size key salt p q c.value is_p is_q (rounds_sized p q a i is_a))
      ∙ append_assoc (map length a.texts) (round_lengths size key salt i) (round_length size key salt i ∷ [])

  filled : (text : List ℕ) (n : ℕ) → length (repeat_to (H text) n) ≡ n
  filled text n = let is = sized text in length_filled (H text) n (omega (arith, is, some))

  pub mixed_lengths : (key salt : List ℕ) (rounds : ℕ)
      → map length (noted_mixed H key salt rounds).texts ≡ text_lengths size (length key) (length salt) (slice_index (digest_a H key salt) 0) rounds
  unfolding noted_mixed
  mixed_lengths key salt rounds =
      let b : List ℕ = digest_b H key salt in
      let first : ℕ = slice_index (digest_a H key salt) 0 in
      let filling : List ℕ = repeat_to b (length key) in
      let digits : List ℕ = by_digits b key (length key) in
      rounds_lengths _ _ _ rounds (length key) (length salt) (filled (repeat (length key) key) (length key))
      (filled (repeat (16 + first) salt) (length salt)) (sized _)
      ∙ same_four _ _ _ _ _ _ _ _ (round_lengths size (length key) (length salt) rounds)
      (three key salt key)
      (four key salt filling digits
      ∙ ap (λ (n : ℕ). length key + length salt + n + length digits) (filled (key ++ salt ++ key) (length key))
      ∙ ap (λ (n : ℕ). length key + length salt + length key + n) (digits_are b key (length key) size (sized _) refl))
      (length_copies (length key) key)
      (length_copies (16 + first) salt)
