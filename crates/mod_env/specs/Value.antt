-- A value of pam_env.conf(5): plain bytes, `${X}` for a variable, and `@{X}` for an item.
--
-- Its steps:
--   `pieces_of`, `pieces_within`: the pieces of a value
--   `next_piece`, `pieces_from_next`: from how it begins
use Rattle.std.specs.Prelude.{ℕ, zero, suc, ◌+◌, Bool, ◌==◌, ◌&&◌, ◌||◌, if◌then◌else◌, List, [], ◌∷◌, length, take, drop, Option, Some, None, position}
use Rattle.mod_env.specs.declared.marks.Mark.{Mark}
use Rattle.mod_env.specs.declared.marks.Mark.TheVariants as marks
use Rattle.mod_env.specs.declared.value.Piece.{Piece}
use Rattle.mod_env.specs.declared.value.Piece.TheVariants.{Byte, Variable, Item}
use Rattle.mod_env.specs.declared.value.Next.{Next as LentNext}
use Rattle.mod_env.specs.declared.value.Next.TheVariants as borrowed
use Rattle.mod_env.specs.Marks.{begins_with, is_byte, text_of}

-- how a value begins: it ends, there is a piece with what follows it, or it is malformed
pub data Next : Type 0 where
  ended : Next
  broken : Next
  one : Piece → List Mark → Next

-- `$` is for a variable, `@` for an item
abbrev pub place : ℕ → List ℕ → Piece
place sigil name = if sigil == 36 then Variable name else Item name

-- a place ends at the first `}`; one that isn't closed is malformed
abbrev pub closed : ℕ → List Mark → Option ℕ → Next
closed sigil marks (Some n) = one (place sigil (text_of (take n marks))) (drop (n + 1) marks)
closed sigil marks None = broken

abbrev pub is_sigil : ℕ → Bool
is_sigil b = b == 36 || b == 64

abbrev pub at_byte : ℕ → List Mark → Next
at_byte b rest =
    if is_sigil b && begins_with (123 ∷ []) rest then closed b (drop 1 rest)
    (position (is_byte 125) (drop 1 rest))
    else one (Byte b) rest

abbrev pub next_piece : List Mark → Next
next_piece [] = ended
next_piece (marks.Plain b ∷ rest) = one (Byte b) rest
next_piece (marks.Stray ∷ rest) = broken
next_piece (marks.Byte b ∷ rest) = at_byte b rest

-- a piece before those that follow it
abbrev pub put_before : Piece → Option (List Piece) → Option (List Piece)
put_before piece (Some more) = Some (piece ∷ more)
put_before piece None = None

-- the pieces, from how the value begins and from the pieces of the rest
abbrev pub pieces_from_next : (List Mark → Option (List Piece)) → Next → Option (List Piece)
pieces_from_next more ended = Some []
pieces_from_next more broken = None
pieces_from_next more (one piece rest) = put_before piece (more rest)

-- the pieces of a value, at most n
abbrev pub pieces_within : ℕ → List Mark → Option (List Piece)
pieces_within zero value = if length value == 0 then Some [] else None
pieces_within (suc n) value = pieces_from_next (pieces_within n) (next_piece value)

-- the pieces of a value, if it is well formed; there are at most as many as bytes
unfoldable pub pieces_of : List Mark → Option (List Piece)
pieces_of value = pieces_within (length value) value

-- the plain value of the code's type
abbrev pub plain_next : LentNext → Next
plain_next borrowed.Ended = ended
plain_next borrowed.Broken = broken
plain_next (borrowed.One piece rest) = one piece rest.now
