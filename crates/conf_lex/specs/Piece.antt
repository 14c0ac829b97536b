-- The pieces of a service file's text, by pam.conf(5), "DESCRIPTION"; a definition that says so is
-- this project's own. Bytes are numbers: 9 tab, 10 newline, 13 carriage return, 32 space, 35 `#`, 91
-- `[`, 92 backslash, 93 `]`.
use Rattle.std.specs.Prelude.{◌≡◌, ℕ, Bool, true, false, not, List, [], ◌∷◌, ◌++◌, Option, Some, None, ◌==◌, ◌||◌, ◌&&◌, if◌then◌else◌}
use Rattle.std.specs.List.{flat_map}
use Rattle.pam_base.specs.Bytes.{has_byte}
use Rattle.pam_base.specs.White.{is_white}
use Rattle.conf_lex.specs.declared.token.Token.{Token}

-- a join (pam.conf(5): an escaped end of line extends a rule): a backslash and a newline, or (own) with a carriage
-- return between
pub data Join : Type 0 where
  feed : Join
  return_feed : Join

-- the bytes of a join (pam.conf(5))
abbrev pub join_bytes : Join → List ℕ
join_bytes feed = 92 ∷ 10 ∷ []
join_bytes return_feed = 92 ∷ 13 ∷ 10 ∷ []

-- what may be inside brackets (pam.conf(5), on arguments in brackets): `\]`, a join, or any other
-- byte
pub data BracketUnit : Type 0 where
  escaped : BracketUnit
  joined : Join → BracketUnit
  single : ℕ → BracketUnit

-- the bytes of a unit (pam.conf(5))
abbrev pub unit_bytes : BracketUnit → List ℕ
unit_bytes escaped = 92 ∷ 93 ∷ []
unit_bytes (joined j) = join_bytes j
unit_bytes (single b) = b ∷ []

-- what a unit gives to its token (pam.conf(5): `\]` is `]`; own: a join is a space)
abbrev pub unit_text : BracketUnit → List ℕ
unit_text escaped = 93 ∷ []
unit_text (joined j) = 32 ∷ []
unit_text (single b) = b ∷ []

-- the bytes of units, one after another (pam.conf(5))
abbrev pub units_bytes : List BracketUnit → List ℕ
units_bytes us = flat_map unit_bytes us

-- what they give together (pam.conf(5))
abbrev pub units_text : List BracketUnit → List ℕ
units_text us = flat_map unit_text us

-- the pieces (pam.conf(5): space separated tokens, arguments in brackets, comments, joins); an open bracket, which is
-- a fault, goes on to the line's end (own)
pub data Piece : Type 0 where
  newline : Piece
  white : ℕ → Piece
  join : Join → Piece
  plain : List ℕ → Piece
  bracket : List BracketUnit → Piece
  open_bracket : List BracketUnit → Piece
  comment : List ℕ → Piece

-- the bytes of a piece (pam.conf(5))
abbrev pub piece_bytes : Piece → List ℕ
piece_bytes newline = 10 ∷ []
piece_bytes (white b) = b ∷ []
piece_bytes (join j) = join_bytes j
piece_bytes (plain run) = run
piece_bytes (bracket us) = 91 ∷ (units_bytes us ++ 93 ∷ [])
piece_bytes (open_bracket us) = 91 ∷ units_bytes us
piece_bytes (comment text) = 35 ∷ text

-- the bytes of pieces, one after another (pam.conf(5))
abbrev pub spelling : List Piece → List ℕ
spelling ps = flat_map piece_bytes ps

-- a token is what a plain piece or a bracket gives (pam.conf(5))
abbrev pub piece_tokens : Piece → List Token
piece_tokens (plain run) = record { bracketed = false; text = run } ∷ []
piece_tokens (bracket us) = record { bracketed = true; text = units_text us } ∷ []
piece_tokens _ = []

-- the tokens of pieces, in order (pam.conf(5))
abbrev pub tokens_of : List Piece → List Token
tokens_of ps = flat_map piece_tokens ps

-- a newline that ends a line (pam.conf(5)), unlike the newline of a join
abbrev pub is_newline : Piece → Bool
is_newline newline = true
is_newline _ = false

-- a bracket that isn't closed in its line (own)
abbrev pub is_open : Piece → Bool
is_open (open_bracket us) = true
is_open _ = false

-- ---- where a piece may be: what must follow it in the text

-- whether a text begins with the byte (own)
abbrev pub begins_with : ℕ → List ℕ → Bool
begins_with a [] = false
begins_with a (b ∷ bs) = b == a

-- whether a text is at the end of a physical line (own: the last may lack its newline)
abbrev pub at_line_end : List ℕ → Bool
at_line_end [] = true
at_line_end (b ∷ bs) = b == 10

-- the join whose backslash comes before these bytes, if they make one (pam.conf(5), as above)
abbrev pub join_after_backslash : List ℕ → Option Join
join_after_backslash [] = None
join_after_backslash (b ∷ bs) = if b == 10 then Some feed else if b == 13 && begins_with 10 bs
    then Some return_feed else None

-- the join at the beginning of a text, if there is one (own: a backslash as the last byte makes
-- none)
abbrev pub join_at : List ℕ → Option Join
join_at [] = None
join_at (b ∷ bs) = if b == 92 then join_after_backslash bs else None

-- whether there is one (own)
abbrev pub has_join : Option Join → Bool
has_join None = false
has_join (Some j) = true

-- whether a text begins with a join (pam.conf(5))
abbrev pub begins_join : List ℕ → Bool
begins_join text = has_join (join_at text)

-- a plain token continues with a byte that isn't white space, `#` or a newline and doesn't begin a
-- join (pam.conf(5); `#` ends it, own)
abbrev pub goes_on : List ℕ → Bool
goes_on [] = false
goes_on (b ∷ bs) = not (is_white b || b == 35 || b == 10 || begins_join (b ∷ bs))

-- whether it continues with each byte of the run, given what follows the run (own)
abbrev pub all_go_on : List ℕ → List ℕ → Bool
all_go_on [] rest = true
all_go_on (b ∷ bs) rest = goes_on (b ∷ (bs ++ rest)) && all_go_on bs rest

-- a byte in brackets that means itself (pam.conf(5), own): not `]`, a newline, a backslash before
-- `]`, or the beginning of a join
abbrev pub is_single : List ℕ → Bool
is_single [] = false
is_single (b ∷ bs) = not (b == 93 || b == 10 || (b == 92 && begins_with 93 bs)
    || begins_join (b ∷ bs))

-- whether a unit may come before the rest (own)
abbrev pub unit_may_precede : BracketUnit → List ℕ → Bool
unit_may_precede (single b) rest = is_single (b ∷ rest)
unit_may_precede _ rest = true

-- whether each of these units may come before what follows it (own)
abbrev pub units_may_precede : List BracketUnit → List ℕ → Bool
units_may_precede [] rest = true
units_may_precede (u ∷ us) rest = unit_may_precede u (units_bytes us ++ rest) && units_may_precede us rest

-- whether a piece may come before the rest (pam.conf(5), own): a plain token is as long as possible
-- and doesn't begin with `[`, a bracket is closed by the first `]` that has no backslash before it,
-- and a comment or an open bracket goes on to the line's end
abbrev pub may_precede : Piece → List ℕ → Bool
may_precede newline rest = true
may_precede (white b) rest = is_white b
may_precede (join j) rest = true
may_precede (plain run) rest = not (at_line_end run) && not (begins_with 91 run) && all_go_on run rest
    && not (goes_on rest)
may_precede (bracket us) rest = units_may_precede us (93 ∷ rest)
may_precede (open_bracket us) rest = units_may_precede us rest && at_line_end rest
may_precede (comment text) rest = not (has_byte 10 text) && at_line_end rest

-- whether each of these pieces may come before what follows it (own)
abbrev pub all_may_precede : List Piece → List ℕ → Bool
all_may_precede [] rest = true
all_may_precede (p ∷ ps) rest = may_precede p (spelling ps ++ rest) && all_may_precede ps rest

-- these pieces spell a prefix of the text, which this rest follows (own)
pub record Reads (text : List ℕ) (pieces : List Piece) (rest : List ℕ) : Type 0 where
  pub spelled : text ≡ spelling pieces ++ rest
  pub stand : all_may_precede pieces rest ≡ true

-- the text is spelled by these pieces (own)
abbrev pub IsReading : List ℕ → List Piece → Type 0
IsReading text pieces = Reads text pieces []
