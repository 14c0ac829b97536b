-- Taking the lines of a text one by one.
use Rattle.std.proofs.Common.{◌≡◌, ℕ, ◌+◌, ◌-◌, ◌<◌, List, [], ◌∷◌, length, take, drop, slice_get, Option, Some, None, refl, sym, ap, ◌∙◌, arith, length-drop}
use Rattle.std.proofs.lemmas.List.{take_all, nil_from_length}
use Rattle.pam_base.specs.Bytes.{IsFirstPlace}
use Rattle.pam_base.specs.Lines.{lines_of, lines_of-line, lines_of-part, last_line}

-- a slice from an index to the end
rest_is : (text : List ℕ) (n : ℕ) → take (length text - n) (drop n text) ≡ drop n text
rest_is text n = take_all (length text - n) (drop n text) (omega (arith, length-drop n text))

lines_of-empty : lines_of [] ≡ []
lines_of-empty = lines_of-part [] refl

module _ (text : List ℕ) (left : List (List ℕ)) (is : lines_of text ≡ left) where
  pub no_line : length text ≡ 0 → ◌≡◌ {A = Option (List ℕ)} None (slice_get left 0)
  no_line e =
      let none : left ≡ [] = sym is ∙ ap lines_of (nil_from_length text e) ∙ lines_of-empty in
      rw none refl

  pub no_line_left : length text ≡ 0 → left ≡ drop 1 left
  no_line_left e =
      let none : left ≡ [] = sym is ∙ ap lines_of (nil_from_length text e) ∙ lines_of-empty in
      rw none refl

  module _ (n : ℕ) (at : IsFirstPlace (Some n) 10 text) where
    parts : left ≡ take n text ∷ lines_of (drop (n + 1) text)
    parts = sym is ∙ ap lines_of at.2 ∙ lines_of-line (take n text) (drop (n + 1) text) at.1

    pub whole_line : ◌≡◌ {A = Option (List ℕ)} (Some (take n text)) (slice_get left 0)
    whole_line = rw parts refl

    pub whole_line_left : lines_of (take (length text - (n + 1)) (drop (n + 1) text)) ≡ drop 1 left
    whole_line_left = rw (rest_is, parts) refl

  module _ (none : IsFirstPlace None 10 text) (some : 0 < length text) where
    one : (t : List ℕ) → 0 < length t → last_line t ≡ t ∷ []
    one [] lt = absurd (omega arith)
    one (b ∷ bs) lt = refl

    alone : left ≡ text ∷ []
    alone = sym is ∙ lines_of-part text none ∙ one text some

    pub part_line : ◌≡◌ {A = Option (List ℕ)} (Some text) (slice_get left 0)
    part_line = rw alone refl

    pub part_line_left : lines_of (take (length text - length text) (drop (length text) text)) ≡ drop 1 left
    part_line_left =
        let empty : drop (length text) text ≡ [] = nil_from_length (drop (length text) text) (omega (arith, length-drop (length text) text)) in
        rw (rest_is, empty, lines_of-empty, alone) refl
