-- What the parts of the lexer give (this project's own).
use Rattle.std.specs.Prelude.{◌≡◌, ℕ, ◌+◌, Bool, true, false, List, [], ◌∷◌, ◌++◌, Option, Some, None, Result, Ok, Err, length, nat_lt, ◌==◌, ◌||◌, ◌&&◌, if◌then◌else◌}
use Rattle.std.specs.List.{flat_map, list_any}
use Rattle.pam_base.specs.White.{is_white}
use Rattle.pam_base.specs.declared.fault.Refuse.{Refuse}
use Rattle.pam_base.specs.declared.fault.Refuse.TheVariants as refusals
use Rattle.pam_base.specs.declared.fault.FaultKind.TheVariants.{OpenBracket, RuleTooLong}
use Rattle.conf_lex.specs.declared.token.Token.{Token}
use Rattle.conf_lex.specs.declared.token.RawRule.{RawRule}
use Rattle.conf_lex.specs.declared.token.LexFault.{LexFault}
use Rattle.conf_lex.specs.declared.lexer.LinePiece.{LinePiece}
use Rattle.conf_lex.specs.declared.lexer.LinePiece.TheVariants as founds
use Rattle.conf_lex.specs.declared.lexer.Line.{Line}
use Rattle.conf_lex.specs.Piece.{Join, join_bytes, join_at, BracketUnit, unit_bytes, unit_text, units_bytes, units_text, units_may_precede, unit_may_precede, Piece, piece_bytes, piece_tokens, spelling, tokens_of, is_newline, is_open, may_precede, begins_with, Reads}
use Rattle.conf_lex.specs.Reading.{unit_at, pieces_of}
use Rattle.conf_lex.specs.Rules.{newlines, JoinedLine, lines_of_pieces, numbered, rule_at, line_rules, first_fault}

-- the bytes before the first NUL byte: no more is read
abbrev pub before_nul : List ℕ → List ℕ
before_nul [] = []
before_nul (b ∷ bs) = if b == 0 then [] else b ∷ before_nul bs

-- the physical line of the first NUL byte, if there is one, for a text that begins in line n
abbrev pub nul_line : ℕ → List ℕ → Option ℕ
nul_line n [] = None
nul_line n (b ∷ bs) = if b == 0 then Some n else nul_line (n + newlines (b ∷ [])) bs

-- whether a bracket's units end here, with a `]` or the line
abbrev pub is_bracket_end : List ℕ → Bool
is_bracket_end [] = true
is_bracket_end (b ∷ bs) = b == 93 || b == 10

-- whether a `\]` comes next
abbrev pub is_escape : List ℕ → Bool
is_escape [] = false
is_escape (b ∷ bs) = b == 92 && begins_with 93 bs

-- whether white space comes next
abbrev pub begins_white : List ℕ → Bool
begins_white [] = false
begins_white (b ∷ bs) = is_white b

-- a join was taken from the beginning, or there is none
abbrev pub TakesJoin : Bool → List ℕ → List ℕ → ℕ → ℕ → Type 0
TakesJoin true before after old_line new_line = (j : Join) × (before ≡ join_bytes j ++ after)
    × (new_line ≡ old_line + 1)
TakesJoin false before after old_line new_line = (join_at before ≡ None) × (after ≡ before)
    × (new_line ≡ old_line)

-- a unit of a bracket was taken, with what it gives, or none is left
pub record UnitTaken (byte : ℕ) (before after : List ℕ) (old_line new_line : ℕ) : Type 0 where
  pub unit : BracketUnit
  pub spelled : before ≡ unit_bytes unit ++ after
  pub stand : unit_may_precede unit after ≡ true
  pub gives : unit_text unit ≡ byte ∷ []
  pub lines : new_line ≡ old_line + newlines (unit_bytes unit)

-- the unit at the beginning was taken, if there is one
abbrev pub TakesUnit : Option ℕ → List ℕ → List ℕ → ℕ → ℕ → Type 0
TakesUnit (Some byte) before after old_line new_line = UnitTaken byte before after old_line new_line
TakesUnit None before after old_line new_line = (unit_at before ≡ None) × (after ≡ before)
    × (new_line ≡ old_line)

-- all units of a bracket were taken
pub record TakesUnits (text before after : List ℕ) (old_line new_line : ℕ) : Type 0 where
  pub units : List BracketUnit
  pub spelled : before ≡ units_bytes units ++ after
  pub stand : units_may_precede units after ≡ true
  pub gives : text ≡ units_text units
  pub lines : new_line ≡ old_line + newlines (units_bytes units)

-- the tokens of what was found
abbrev pub found_tokens : LinePiece → List Token
found_tokens founds.Blank = []
found_tokens (founds.Token t) = t ∷ []
found_tokens founds.OpenBracket = []

-- whether it is an open bracket
abbrev pub found_open : LinePiece → Bool
found_open founds.OpenBracket = true
found_open _ = false

-- a piece other than a newline was taken
pub record TakesPiece (found : LinePiece) (before after : List ℕ) (old_line new_line : ℕ) : Type 0 where
  pub piece : Piece
  pub spelled : before ≡ piece_bytes piece ++ after
  pub stand : may_precede piece after ≡ true
  pub within : is_newline piece ≡ false
  pub tokens : found_tokens found ≡ piece_tokens piece
  pub opened : found_open found ≡ is_open piece
  pub lines : new_line ≡ old_line + newlines (piece_bytes piece)

-- pieces other than newlines were taken
pub record TakesPieces (line : Line) (before after : List ℕ) (old_line new_line : ℕ) : Type 0 where
  pub pieces : List Piece
  pub reads : Reads before pieces after
  pub within : list_any is_newline pieces ≡ false
  pub tokens : line.tokens ≡ tokens_of pieces
  pub opened : line.opened ≡ list_any is_open pieces
  pub lines : new_line ≡ old_line + newlines (spelling pieces)

-- a joined line was ended, by a newline or with the text
abbrev pub EndsLine : List ℕ → List ℕ → ℕ → ℕ → Type 0
EndsLine [] after old_line new_line = (after ≡ []) × (new_line ≡ old_line)
EndsLine (b ∷ bs) after old_line new_line = (b ≡ 10) × (after ≡ bs) × (new_line ≡ old_line + 1)

-- the fault of a joined line of this length
abbrev pub fault_at : ℕ → ℕ → Bool → Option LexFault
fault_at first length opened =
    if nat_lt 4096 length then Some (record { line = first; kind = RuleTooLong })
    else if opened then Some (record { line = first; kind = OpenBracket })
    else None

-- the result for joined lines: their rules, or their first fault
abbrev pub given : Option LexFault → List RawRule → Result (List RawRule) LexFault
given None rules = Ok rules
given (Some f) rules = Err f

-- the result for these joined lines
abbrev pub answer_of : List JoinedLine → Result (List RawRule) LexFault
answer_of lines = given (first_fault lines) (flat_map line_rules lines)

-- the result for the rest of a text, in physical line n
unfoldable pub answer_at : ℕ → List ℕ → Result (List RawRule) LexFault
answer_at n text = answer_of (numbered n (lines_of_pieces (pieces_of text)))

-- the same with the rules of earlier lines
abbrev pub with_rules_first : List RawRule → Result (List RawRule) LexFault
    → Result (List RawRule) LexFault
with_rules_first front (Ok rules) = Ok (front ++ rules)
with_rules_first front (Err f) = Err f

-- unless memory ran out, a line has these tokens or this fault, and the rest of the text gives the
-- other lines
abbrev pub GivesLine : Result (List Token) (Refuse LexFault) → Result (List RawRule) LexFault → ℕ
    → Result (List RawRule) LexFault → Type 0
GivesLine (Ok tokens) all first left = all ≡ with_rules_first (rule_at first tokens) left
GivesLine (Err (refusals.Named f)) all first left = all ≡ Err f
GivesLine (Err refusals.NoMemory) all first left = Unit {0}

-- unless an allocation failed, the result is what was returned
abbrev pub Gives : {A : Type 0} → Result A (Refuse LexFault) → Result A LexFault → Type 0
Gives (Ok x) answer = answer ≡ Ok x
Gives (Err (refusals.Named f)) answer = answer ≡ Err f
Gives (Err refusals.NoMemory) answer = Unit {0}

-- a fault that was named has this property
abbrev pub IfNamed : {A : Type 0} → Result A (Refuse LexFault) → (LexFault → Type 0) → Type 0
IfNamed (Ok x) P = Unit {0}
IfNamed (Err (refusals.Named f)) P = P f
IfNamed (Err refusals.NoMemory) P = Unit {0}
