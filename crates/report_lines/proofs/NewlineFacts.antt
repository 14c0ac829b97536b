-- A text with its newline.
use Rattle.std.proofs.Common.{◌≡◌, ℕ, ◌-◌, Bool, true, false, List, [], ◌∷◌, ◌++◌, length, take, drop, refl, sym, ◌∙◌, ap, arith, length-append}
use Rattle.std.specs.Str.{bytes_eq}
use Rattle.std.proofs.Math.Seq.{drop-append_seam}
use Rattle.std.proofs.lemmas.List.{take-append-drop}
use Rattle.std.proofs.lemmas.Slice.Eq.{bytes_eq-Decides}
use Rattle.report_lines.proofs.LineFormFacts.{cut_newline}

same_bool : (a b : Bool) → (a ≡ true → b ≡ true) → (b ≡ true → a ≡ true) → a ≡ b
same_bool true b to from = sym (to refl)
same_bool false true to from = from refl
same_bool false false to from = refl

with_newline : (text front : List ℕ) → drop (length text - 1) text ≡ 10 ∷ [] → front ≡ take (length text - 1) text → text ≡ front ++ 10 ∷ []
with_newline text front last is =
    sym (take-append-drop (length text - 1) text) ∙ ap (λ (x : List ℕ). take (length text - 1) text ++ x) last ∙ ap (λ (x : List ℕ). x ++ 10 ∷ []) (sym is)

same_lines : (text front line : List ℕ) → text ≡ front ++ 10 ∷ [] → bytes_eq front line ≡ bytes_eq text (line ++ 10 ∷ [])
same_lines text front line whole =
    same_bool (bytes_eq front line) (bytes_eq text (line ++ 10 ∷ []))
    (λ one. (bytes_eq-Decides text (line ++ 10 ∷ [])).1 (whole ∙ ap (λ (x : List ℕ). x ++ 10 ∷ []) ((bytes_eq-Decides front line).0 one)))
    (λ two. (bytes_eq-Decides front line).1 (cut_newline front line (sym whole ∙ (bytes_eq-Decides text (line ++ 10 ∷ [])).0 two)))

pub is_line_some : (text front line : List ℕ) → bytes_eq (drop (length text - 1) text) (10 ∷ []) ≡ true → front ≡ take (length text - 1) text → bytes_eq front line ≡ bytes_eq text (line ++ 10 ∷ [])
is_line_some text front line last is = same_lines text front line (with_newline text front ((bytes_eq-Decides (drop (length text - 1) text) (10 ∷ [])).0 last) is)

last_of : (line : List ℕ) → drop (length (line ++ 10 ∷ []) - 1) (line ++ 10 ∷ []) ≡ 10 ∷ []
last_of line =
    let one : length (line ++ 10 ∷ []) - 1 ≡ length line = omega (arith, length-append line (10 ∷ [])) in
    ap (λ (k : ℕ). drop k (line ++ 10 ∷ [])) one ∙ drop-append_seam line (10 ∷ [])

none_if : (text line : List ℕ) (b : Bool) → bytes_eq text (line ++ 10 ∷ []) ≡ b → bytes_eq (drop (length text - 1) text) (10 ∷ []) ≡ false → false ≡ b
none_if text line false is last = refl
none_if text line true is last =
    let whole : text ≡ line ++ 10 ∷ [] = (bytes_eq-Decides text (line ++ 10 ∷ [])).0 is in
    let ends : drop (length text - 1) text ≡ 10 ∷ [] = ap (λ (x : List ℕ). drop (length x - 1) x) whole ∙ last_of line in
    sym last ∙ (bytes_eq-Decides (drop (length text - 1) text) (10 ∷ [])).1 ends

pub is_line_none : (text line : List ℕ) → bytes_eq (drop (length text - 1) text) (10 ∷ []) ≡ false → false ≡ bytes_eq text (line ++ 10 ∷ [])
is_line_none text line last = none_if text line (bytes_eq text (line ++ 10 ∷ [])) refl last
