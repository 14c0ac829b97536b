-- A history that is written is read as itself.
use Rattle.std.proofs.Common.{◌≡◌, ℕ, false, eqb, List, [], ◌∷◌, ◌++◌, flat_map, Some, refl, ap, ◌∙◌, append_assoc}
use Rattle.std.proofs.lemmas.List.{append-nil}
use Rattle.std.proofs.lemmas.List.Folds.{list_any-append}
use Rattle.std.specs.List.{AllByRecursion}
use Rattle.pam_base.specs.Bytes.{has_byte}
use Rattle.pam_base.specs.Lines.{cut, lines_of, lines_of-line}
use Rattle.pam_base.specs.Parts.{parts_of}
use Rattle.pam_base.proofs.TextPartFacts.{parts_of-first, parts_of-last}
use Rattle.mod_history.specs.declared.history.Remembered.{Remembered}
use Rattle.mod_history.specs.History.{IsHistory, IsLine, IsPart, all_in, hash_text, history_of, history_text, line_text, part_in, remembered_in, whole_line}

-- ---- a line

parts_line : (part : List ℕ) (hashes : List (List ℕ)) → has_byte 58 part ≡ false → AllByRecursion IsPart hashes → parts_of 58 (part ++ flat_map hash_text hashes) ≡ part ∷ hashes
parts_line part [] e all = rw append-nil (parts_of-last 58 part e)
parts_line part (h ∷ hs) e all = parts_of-first 58 part (h ++ flat_map hash_text hs) e ∙ ap (λ (ps : List (List ℕ)). part ∷ ps) (parts_line h hs all.0.colons all.1)

parts_filled : (parts : List (List ℕ)) → AllByRecursion IsPart parts → all_in part_in parts ≡ Some parts
parts_filled [] all = refl
parts_filled (p ∷ ps) all = rw (all.0.filled, parts_filled ps all.1) refl

line_read : (r : Remembered) → IsLine r → remembered_in (line_text r) ≡ Some r
line_read r all = rw (parts_line r.name r.hashes all.0.colons all.1, all.0.filled, parts_filled r.hashes all.1) refl

lacks_both : (byte : ℕ) (a b : List ℕ) → has_byte byte a ≡ false → has_byte byte b ≡ false → has_byte byte (a ++ b) ≡ false
lacks_both byte a b e f = list_any-append (λ c. eqb c byte) a b ∙ rw (e, f) refl

hashes_lack : (hashes : List (List ℕ)) → AllByRecursion IsPart hashes → has_byte 10 (flat_map hash_text hashes) ≡ false
hashes_lack [] all = refl
hashes_lack (h ∷ hs) all = lacks_both 10 (58 ∷ h) (flat_map hash_text hs) all.0.newlines (hashes_lack hs all.1)

line_lacks : (r : Remembered) → IsLine r → has_byte 10 (line_text r) ≡ false
line_lacks r all = lacks_both 10 r.name (flat_map hash_text r.hashes) all.0.newlines (hashes_lack r.hashes all.1)

-- ---- the file

no_lines : lines_of [] ≡ []
unfolding lines_of cut
no_lines = refl

lines_read : (history : List Remembered) → AllByRecursion IsLine history → all_in remembered_in (lines_of (flat_map whole_line history)) ≡ Some history
lines_read [] all = rw no_lines refl
lines_read (r ∷ rs) all =
    let rest = flat_map whole_line rs in
    rw (append_assoc (line_text r) (10 ∷ []) rest, lines_of-line (line_text r) rest (line_lacks r all.0), line_read r all.0, lines_read rs all.1) refl

pub history_read : (history : List Remembered) → IsHistory history → history_of (history_text history) ≡ Some history
unfolding history_of history_text
history_read history is = rw (lines_read history is.lines, is.distinct) refl
