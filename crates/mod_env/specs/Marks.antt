-- The bytes of a line of pam_env.conf(5), and which of them a backslash quoted.
use Rattle.std.specs.Prelude.{ℕ, Bool, true, false, ◌==◌, ◌&&◌, if◌then◌else◌, List, [], ◌∷◌, Option, Some, None}
use Rattle.std.specs.List.{filter_map}
use Rattle.pam_base.specs.White.{is_white}
use Rattle.mod_env.specs.declared.marks.Mark.{Mark}
use Rattle.mod_env.specs.declared.marks.Mark.TheVariants.{Byte, Plain, Stray}

-- a backslash quotes the next byte; one without a next byte is stray
abbrev pub marks_from : Bool → List ℕ → List Mark
marks_from true [] = Stray ∷ []
marks_from true (b ∷ bs) = Plain b ∷ marks_from false bs
marks_from false [] = []
marks_from false (b ∷ bs) = if b == 92 then marks_from true bs else Byte b ∷ marks_from false bs

unfoldable pub marks_of : List ℕ → List Mark
marks_of text = marks_from false text

-- a byte that isn't quoted, so that it has its special meaning
abbrev pub is_byte : ℕ → Mark → Bool
is_byte wanted (Byte b) = b == wanted
is_byte wanted (Plain b) = false
is_byte wanted Stray = false

abbrev pub is_white_mark : Mark → Bool
is_white_mark (Byte b) = is_white b
is_white_mark (Plain b) = false
is_white_mark Stray = false

-- whether the text begins with these bytes
abbrev pub begins_with : List ℕ → List Mark → Bool
begins_with [] marks = true
begins_with (c ∷ cs) [] = false
begins_with (c ∷ cs) (m ∷ ms) = is_byte c m && begins_with cs ms

-- what follows leading white space, of bytes or of marks
abbrev pub unspaced : {X : Type 0} → (X → Bool) → List X → List X
unspaced white [] = []
unspaced white (x ∷ xs) = if white x then unspaced white xs else x ∷ xs

abbrev pub after_white : List Mark → List Mark
after_white marks = unspaced is_white_mark marks

-- the bytes themselves
abbrev pub byte_of : Mark → Option ℕ
byte_of (Byte b) = Some b
byte_of (Plain b) = Some b
byte_of Stray = None

abbrev pub text_of : List Mark → List ℕ
text_of marks = filter_map byte_of marks
