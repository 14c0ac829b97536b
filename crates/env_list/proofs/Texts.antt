-- The name and the value in a text.
use Rattle.std.proofs.Common.{◌≡◌, ℕ, ◌+◌, ◌-◌, true, false, not, eqb, List, [], ◌∷◌, ◌++◌, length, take, drop, Some, None, refl, sym, ap, ◌∙◌, arith}
use Rattle.std.specs.List.{position_or_len}
use Rattle.std.proofs.Math.Seq.{take-append_seam, drop-append-add, take-length}
use Rattle.std.proofs.lemmas.List.{take_all, length-drop}
use Rattle.std.proofs.lemmas.Grind.{common_steps}
use Rattle.pam_base.specs.Bytes.{has_byte, IsFirstPlace}
use Rattle.env_list.proofs.Names.{none_of_parts}
use Rattle.env_list.specs.Environment.{name_in, value_in, is_deletion}

-- the place of the first `=`, or the length of a text without one
abbrev place_in : List ℕ → ℕ
place_in text = position_or_len (λ byte. eqb byte 61) text

place_after : (name rest : List ℕ) → has_byte 61 name ≡ false → place_in (name ++ 61 ∷ rest) ≡ length name
place_after [] rest none = refl
place_after (byte ∷ name) rest none =
    let parts = none_of_parts (eqb byte 61) (has_byte 61 name) none in
    let at = place_after name rest parts.1 in
    rw parts.0 (omega arith)

no_place : (text : List ℕ) → has_byte 61 text ≡ false → place_in text ≡ length text
no_place [] none = refl
no_place (byte ∷ text) none =
    let parts = none_of_parts (eqb byte 61) (has_byte 61 text) none in
    let at = no_place text parts.1 in
    rw parts.0 (omega arith)

pub has_equals : (name rest : List ℕ) → has_byte 61 (name ++ 61 ∷ rest) ≡ true
has_equals [] rest = refl
has_equals (byte ∷ name) rest = let later = has_equals name rest in grind (arith, common_steps)

pub name_before : (name value : List ℕ) → has_byte 61 name ≡ false → name_in (name ++ 61 ∷ value) ≡ name
name_before name value none = rw (place_after name value none) (take-append_seam name (61 ∷ value))

pub value_after : (name value : List ℕ) → has_byte 61 name ≡ false → value_in (name ++ 61 ∷ value) ≡ value
value_after name value none = rw (place_after name value none) (drop-append-add name (61 ∷ value) 1)

pub name_alone : (name : List ℕ) → has_byte 61 name ≡ false → name_in name ≡ name
name_alone name none = rw (no_place name none) (take-length name)

-- the text is the name, `=` and the value
pub sets : (text : List ℕ) (n : ℕ) → IsFirstPlace (Some n) 61 text
    → (name_in text ≡ take n text) × (value_in text ≡ take (length text - (n + 1)) (drop (n + 1) text)) × (is_deletion text ≡ false)
sets text n at =
    let name = take n text in
    let value = drop (n + 1) text in
    let whole : take (length text - (n + 1)) value ≡ value = take_all _ value (omega (arith, length-drop (n + 1) text)) in
    (ap name_in at.2 ∙ name_before name value at.1, ap value_in at.2 ∙ value_after name value at.1 ∙ sym whole, ap is_deletion at.2 ∙ ap not (has_equals name value))

-- the text is the name alone
pub deletes : (text : List ℕ) → IsFirstPlace None 61 text → (name_in text ≡ text) × (is_deletion text ≡ true)
deletes text none = (name_alone text none, ap not none)
