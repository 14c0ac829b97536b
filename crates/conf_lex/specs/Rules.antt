-- The rules of a text (pam.conf(5), "DESCRIPTION") and its first fault (this project's own, as its limits are).
use Rattle.std.specs.Prelude.{◌≡◌, ℕ, ◌+◌, ◌<◌, ◌≤◌, false, List, [], ◌∷◌, length, take, count_by, nat_lt, Option, Some, None, ◌==◌, if◌then◌else◌}
use Rattle.std.specs.List.{flat_map, list_any}
use Rattle.pam_base.specs.Bytes.{has_byte, IsFirstPlace}
use Rattle.pam_base.specs.declared.fault.FaultKind.{FaultKind}
use Rattle.pam_base.specs.declared.fault.FaultKind.TheVariants.{OpenBracket, NulByte, RuleTooLong, FileTooLong}
use Rattle.conf_lex.specs.declared.token.Token.{Token}
use Rattle.conf_lex.specs.declared.token.RawRule.{RawRule}
use Rattle.conf_lex.specs.declared.token.LexFault.{LexFault}
use Rattle.conf_lex.specs.Piece.{Piece, spelling, tokens_of, is_newline, is_open, IsReading}

-- how many newlines a text has, those of joins too (own)
abbrev pub newlines : List ℕ → ℕ
newlines text = count_by (λ b. b == 10) text

-- a piece before the first line (own)
abbrev pub put_before : Piece → List (List Piece) → List (List Piece)
put_before p [] = (p ∷ []) ∷ []
put_before p (l ∷ ls) = (p ∷ l) ∷ ls

-- the pieces of each joined line (pam.conf(5): a rule is a line, with those joined to it): it ends
-- at a newline that isn't part of a join
abbrev pub lines_of_pieces : List Piece → List (List Piece)
lines_of_pieces [] = [] ∷ []
lines_of_pieces (p ∷ ps) = if is_newline p then [] ∷ lines_of_pieces ps
    else put_before p (lines_of_pieces ps)

-- a joined line with the number of its first physical line, from 1 (own)
pub record JoinedLine : Type 0 where
  pub first : ℕ
  pub pieces : List Piece

-- these joined lines with their numbers, if the first begins in physical line n (own)
abbrev pub numbered : ℕ → List (List Piece) → List JoinedLine
numbered n [] = []
numbered n (l ∷ ls) = record { first = n; pieces = l } ∷ numbered (n + newlines (spelling l) + 1) ls

-- the joined lines of a text's pieces (own)
abbrev pub joined_lines : List Piece → List JoinedLine
joined_lines pieces = numbered 1 (lines_of_pieces pieces)

-- a joined line without tokens gives no rule (pam.conf(5): empty lines and comments)
abbrev pub rule_at : ℕ → List Token → List RawRule
rule_at n [] = []
rule_at n (t ∷ ts) = record { line = n; tokens = t ∷ ts } ∷ []

-- the rule that a joined line gives, if any (pam.conf(5))
abbrev pub line_rules : JoinedLine → List RawRule
line_rules l = rule_at l.first (tokens_of l.pieces)

-- the text is spelled by these rules (pam.conf(5)), whatever the limits: it has a reading without an open bracket,
-- and they are the rules of its joined lines
pub record Spells (text : List ℕ) (rules : List RawRule) : Type 0 where
  pub pieces : List Piece
  pub reading : IsReading text pieces
  pub closed : list_any is_open pieces ≡ false
  pub rules_are : rules ≡ flat_map line_rules (joined_lines pieces)

-- the fault of a joined line (own): more than 4,096 bytes before its newline, else a bracket that is still open at
-- its end
abbrev pub line_fault : JoinedLine → Option LexFault
line_fault l =
    if nat_lt 4096 (length (spelling l.pieces))
    then Some (record { line = l.first; kind = RuleTooLong })
    else if list_any is_open l.pieces then Some (record { line = l.first; kind = OpenBracket })
    else None

-- the earlier fault, if there is one (own)
abbrev pub or_else : Option LexFault → Option LexFault → Option LexFault
or_else None later = later
or_else (Some f) later = Some f

-- the fault of the first joined line that has one (own)
abbrev pub first_fault : List JoinedLine → Option LexFault
first_fault [] = None
first_fault (l ∷ ls) = or_else (line_fault l) (first_fault ls)

-- a text of at most 65,536 bytes without a NUL byte has this first fault among its joined lines (own)
pub record HasLineFault (text : List ℕ) (fault : LexFault) : Type 0 where
  pub short : length text ≤ 65536
  pub no_nul : has_byte 0 text ≡ false
  pub pieces : List Piece
  pub reading : IsReading text pieces
  pub fault_is : first_fault (joined_lines pieces) ≡ Some fault

-- a text of at most 65,536 bytes has its first NUL byte in this physical line (own)
pub record HasNul (text : List ℕ) (line : ℕ) : Type 0 where
  pub short : length text ≤ 65536
  pub place : ℕ
  pub first : IsFirstPlace (Some place) 0 text
  pub line_is : line ≡ 1 + newlines (take place text)

-- the fault of this kind, at this line, is the first of the text (own): too long before a NUL byte, and that before
-- the joined lines' faults in order
abbrev pub IsFaultOf : FaultKind → ℕ → List ℕ → Type 0
IsFaultOf FileTooLong line text = (65536 < length text) × (line ≡ 0)
IsFaultOf NulByte line text = HasNul text line
IsFaultOf RuleTooLong line text = HasLineFault text (record { line = line; kind = RuleTooLong })
IsFaultOf OpenBracket line text = HasLineFault text (record { line = line; kind = OpenBracket })
IsFaultOf _ line text = ⊥

-- this is the first fault of the text (own)
abbrev pub IsFirstFault : List ℕ → LexFault → Type 0
IsFirstFault text fault = IsFaultOf fault.kind fault.line text

-- the text has no fault (own)
abbrev pub HasNoFault : List ℕ → Type 0
HasNoFault text = (fault : LexFault) → IsFirstFault text fault → ⊥
