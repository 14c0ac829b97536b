-- Parts of a text without a given byte, and its lines.
use Rattle.std.proofs.Common.{◌≡◌, ℕ, zero, suc, Bool, true, false, cond, eqb, List, [], ◌∷◌, drop, slice_index_or, refl, ap, ◌∙◌}
use Rattle.std.specs.List.{join_with_byte, onto_first, slice_split}
use Rattle.std.proofs.lemmas.List.Folds.{list_any-append}
use Rattle.pam_base.specs.Bytes.{has_byte}
use Rattle.pam_base.specs.Lines.{cut, last_line, lines_of, lines_of-line, lines_of-part}
use Rattle.pam_base.specs.Parts.{parts_of}
use Rattle.pam_base.proofs.TextPartFacts.{either, parts_of-first, parts_of-last}

abbrev pub Lack : ℕ → List (List ℕ) → Type 0
Lack byte [] = Unit {0}
Lack byte (l ∷ ls) = (has_byte byte l ≡ false) × Lack byte ls

onto_lack : (byte b : ℕ) (ps : List (List ℕ)) → eqb b byte ≡ false → Lack byte ps → Lack byte (onto_first b ps)
onto_lack byte b [] e h = (rw e refl, tt)
onto_lack byte b (p ∷ ps) e h = (rw e h.0, h.1)

-- depending on whether the next byte is a separator
split_lack : (byte b : ℕ) (x : Bool) (ps : List (List ℕ)) → (x ≡ false → eqb b byte ≡ false) → Lack byte ps → Lack byte (cond x ([] ∷ ps) (onto_first b ps))
split_lack byte b true ps e h = (refl, h)
split_lack byte b false ps e h = onto_lack byte b ps (e refl) h

pub own_lack : (byte : ℕ) (text : List ℕ) → Lack byte (parts_of byte text)
unfolding parts_of
own_lack byte [] = (refl, tt)
own_lack byte (b ∷ bs) = split_lack byte b (eqb b byte) (slice_split (λ c. eqb c byte) bs) (λ e. e) (own_lack byte bs)

pub other_lack : (byte separator : ℕ) (text : List ℕ) → has_byte byte text ≡ false → Lack byte (parts_of separator text)
unfolding parts_of
other_lack byte separator [] h = (refl, tt)
other_lack byte separator (b ∷ bs) h =
    let parts = either (eqb b byte) (has_byte byte bs) h in
    split_lack byte b (eqb b separator) (slice_split (λ c. eqb c separator) bs) (λ e. parts.0) (other_lack byte separator bs parts.1)

pub join_lack : (byte separator : ℕ) (ls : List (List ℕ)) → eqb separator byte ≡ false → Lack byte ls → has_byte byte (join_with_byte separator ls) ≡ false
join_lack byte separator [] e h = refl
join_lack byte separator (l ∷ []) e h = h.0
join_lack byte separator (l ∷ m ∷ ms) e h =
    list_any-append (λ b. eqb b byte) l (separator ∷ join_with_byte separator (m ∷ ms)) ∙ rw (h.0, e) (join_lack byte separator (m ∷ ms) e h.1)

pub first_lack : (byte : ℕ) (ls : List (List ℕ)) → Lack byte ls → has_byte byte (slice_index_or ls 0 []) ≡ false
first_lack byte [] h = refl
first_lack byte (l ∷ ls) h = h.0

pub drop_lack : (byte n : ℕ) (ls : List (List ℕ)) → Lack byte ls → Lack byte (drop n ls)
drop_lack byte zero ls h = h
drop_lack byte (suc n) [] h = tt
drop_lack byte (suc n) (l ∷ ls) h = drop_lack byte n ls h.1

-- joined parts are split again at the same places
pub split_join : (separator : ℕ) (l : List ℕ) (ls : List (List ℕ)) → Lack separator (l ∷ ls) → parts_of separator (join_with_byte separator (l ∷ ls)) ≡ l ∷ ls
split_join separator l [] h = parts_of-last separator l h.0
split_join separator l (m ∷ ms) h =
    parts_of-first separator l (join_with_byte separator (m ∷ ms)) h.0 ∙ ap (λ (ps : List (List ℕ)). l ∷ ps) (split_join separator m ms h.1)

-- ---- lines

-- the lines of joined parts: an empty part at the end isn't a line
abbrev pub lines_from : List (List ℕ) → List (List ℕ)
lines_from [] = []
lines_from (l ∷ []) = last_line l
lines_from (l ∷ m ∷ ms) = l ∷ lines_from (m ∷ ms)

pub lines_joined : (ls : List (List ℕ)) → Lack 10 ls → lines_of (join_with_byte 10 ls) ≡ lines_from ls
unfolding lines_of cut
lines_joined [] h = refl
lines_joined (l ∷ []) h = lines_of-part l h.0
lines_joined (l ∷ m ∷ ms) h = lines_of-line l (join_with_byte 10 (m ∷ ms)) h.0 ∙ ap (λ (ls : List (List ℕ)). l ∷ ls) (lines_joined (m ∷ ms) h.1)
