-- The pieces of a text by a plain function on lists, one piece at a time from the beginning (this
-- project's own; the law `one_reading` says that they are the text's only reading).
use Rattle.std.specs.Prelude.{ℕ, zero, suc, ◌-◌, ◌||◌, List, [], ◌∷◌, length, drop, Option, Some, None, ◌==◌, ◌&&◌, if◌then◌else◌}
use Rattle.pam_base.specs.White.{is_white}
use Rattle.conf_lex.specs.Piece.{Join, BracketUnit, escaped, joined, single, unit_bytes, units_bytes, Piece, newline, white, join, plain, bracket, open_bracket, comment, piece_bytes, begins_with, join_at, goes_on}

-- the plain token at the beginning, whatever its first byte (own)
abbrev pub run_of : List ℕ → List ℕ
run_of [] = []
run_of (b ∷ bs) = if goes_on (b ∷ bs) then b ∷ run_of bs else []

-- the bytes before the end of the physical line (own)
abbrev pub rest_of_line : List ℕ → List ℕ
rest_of_line [] = []
rest_of_line (b ∷ bs) = if b == 10 then [] else b ∷ rest_of_line bs

-- the unit at a byte that begins no join (own)
abbrev pub unit_without_join : Option Join → ℕ → List ℕ → Option BracketUnit
unit_without_join (Some j) b bs = Some (joined j)
unit_without_join None b bs = if b == 92 && begins_with 93 bs then Some escaped
    else if b == 93 || b == 10 then None else Some (single b)

-- the unit at the beginning of a text, or None at the end of a bracket's units (own)
abbrev pub unit_at : List ℕ → Option BracketUnit
unit_at [] = None
unit_at (b ∷ bs) = unit_without_join (join_at (b ∷ bs)) b bs

-- the units after the first n bytes, which an earlier unit has (own)
unfoldable pub units_after : ℕ → List ℕ → List BracketUnit
units_after n [] = []
units_after zero (b ∷ bs) =
    elim (unit_at (b ∷ bs)) [ Some u ↦ u ∷ units_after (length (unit_bytes u) - 1) bs | None ↦ [] ]
units_after (suc n) (b ∷ bs) = units_after n bs

-- the bracket of these units: what follows them decides whether it is closed (own)
abbrev pub bracket_of : List BracketUnit → List ℕ → Piece
bracket_of us text = if begins_with 93 (drop (length (units_bytes us)) text) then bracket us
    else open_bracket us

-- the piece at a byte that begins no join (own)
abbrev pub piece_without_join : Option Join → ℕ → List ℕ → Piece
piece_without_join (Some j) b bs = join j
piece_without_join None b bs =
    if b == 10 then newline
    else if is_white b then white b
    else if b == 35 then comment (rest_of_line bs)
    else if b == 91 then bracket_of (units_after 0 bs) bs
    else plain (b ∷ run_of bs)

-- the piece at the beginning of a text (own)
unfoldable pub first_piece : List ℕ → Piece
first_piece [] = newline
first_piece (b ∷ bs) = piece_without_join (join_at (b ∷ bs)) b bs

-- the pieces after the first n bytes, which an earlier piece has (own)
unfoldable pub pieces_after : ℕ → List ℕ → List Piece
pieces_after n [] = []
pieces_after zero (b ∷ bs) = first_piece (b ∷ bs)
    ∷ pieces_after (length (piece_bytes (first_piece (b ∷ bs))) - 1) bs
pieces_after (suc n) (b ∷ bs) = pieces_after n bs

-- the pieces of a text (own)
abbrev pub pieces_of : List ℕ → List Piece
pieces_of text = pieces_after 0 text
