-- The lines of a text: each ends at a newline, and the last may lack it (POSIX's text file).
use Rattle.std.specs.Prelude.{◌≡◌, ℕ, Bool, true, false, List, [], ◌∷◌, ◌++◌, ◌==◌, ◌||◌, if◌then◌else◌}
use Rattle.std.proofs.Common.{refl, eqb}
use Rattle.pam_base.specs.Bytes.{has_byte}

-- the lines that end with a newline, and what follows the last of them
pub record Cut : Type 0 where
  pub lines : List (List ℕ)
  pub rest : List ℕ

-- a byte before the first line
abbrev pub onto : ℕ → List (List ℕ) → List ℕ → Cut
onto b [] rest = record { lines = []; rest = b ∷ rest }
onto b (l ∷ ls) rest = record { lines = (b ∷ l) ∷ ls; rest = rest }

unfoldable pub cut : List ℕ → Cut
cut [] = record { lines = []; rest = [] }
cut (b ∷ bs) = if b == 10 then record { lines = [] ∷ (cut bs).lines; rest = (cut bs).rest }
    else onto b (cut bs).lines (cut bs).rest

-- what follows the last newline is a line if it isn't empty
abbrev pub last_line : List ℕ → List (List ℕ)
last_line [] = []
last_line (b ∷ bs) = (b ∷ bs) ∷ []

-- the lines of a text
unfoldable pub lines_of : List ℕ → List (List ℕ)
lines_of text = (cut text).lines ++ last_line (cut text).rest

-- ---- laws

neither : (a b : Bool) → (a || b) ≡ false → (a ≡ false) × (b ≡ false)
neither true b e = absurd cc
neither false b e = (refl, e)

-- a line with its newline is cut off first
pub cut-line : (line more : List ℕ) → has_byte 10 line ≡ false
    → cut (line ++ 10 ∷ more) ≡ record { lines = line ∷ (cut more).lines; rest = (cut more).rest }
unfolding cut
cut-line [] more e = refl
cut-line (b ∷ bs) more e =
    let both = neither (eqb b 10) (has_byte 10 bs) e in
    rw (both.0, cut-line bs more both.1) refl

-- bytes without a newline aren't a complete line
pub cut-part : (part : List ℕ) → has_byte 10 part ≡ false
    → cut part ≡ record { lines = []; rest = part }
unfolding cut
cut-part [] e = refl
cut-part (b ∷ bs) e =
    let both = neither (eqb b 10) (has_byte 10 bs) e in
    rw (both.0, cut-part bs both.1) refl

pub lines_of-line : (line more : List ℕ) → has_byte 10 line ≡ false
    → lines_of (line ++ 10 ∷ more) ≡ line ∷ lines_of more
unfolding lines_of
lines_of-line line more e = rw (cut-line line more e) refl

pub lines_of-part : (part : List ℕ) → has_byte 10 part ≡ false → lines_of part ≡ last_line part
unfolding lines_of
lines_of-part part e = rw (cut-part part e) refl
