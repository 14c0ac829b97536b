-- The definitions computed on texts, before any code depends on them.
use Rattle.std.proofs.Common.{ℕ, true, false, List, [], ◌∷◌, ◌++◌, codes, refl, lit<, lit≤}
use Rattle.pam_base.specs.declared.fault.FaultKind.TheVariants.{OpenBracket, NulByte}
use Rattle.conf_lex.specs.declared.token.Token.{Token}
use Rattle.conf_lex.specs.declared.token.RawRule.{RawRule}
use Rattle.conf_lex.specs.Piece.{newline, white, join, plain, bracket, open_bracket, comment, feed, return_feed, escaped, joined, single}
use Rattle.conf_lex.specs.Rules.{Spells, IsFirstFault}

abbrev word : List ℕ → Token
word text = record { bracketed = false; text = text }

abbrev quoted : List ℕ → Token
quoted text = record { bracketed = true; text = text }

abbrev rule : ℕ → List Token → RawRule
rule n tokens = record { line = n; tokens = tokens }

-- an empty text has no rules
empty : Spells [] []
empty = record { pieces = []; reading = record { spelled = refl; stand = refl }; closed = refl; rules_are = refl }

-- a comment, an empty line, and a rule in the third physical line
third : Spells (codes "# c\\\n\r\na b#c\n") (rule 3 (word (codes "a") ∷ word (codes "b") ∷ []) ∷ [])
third = record {
  pieces = comment (codes " c\\") ∷ newline ∷ white 13 ∷ newline ∷ plain (codes "a") ∷ white 32 ∷ plain (codes "b") ∷ comment (codes "c") ∷ newline ∷ [];
  reading = record { spelled = refl; stand = refl };
  closed = refl;
  rules_are = refl;
}

-- joins read as one space, and a rule has the number of its first line
joins : Spells (codes "a\\\nb\\\r\nc\nd") (rule 1 (word (codes "a") ∷ word (codes "b") ∷ word (codes "c") ∷ []) ∷ rule 4 (word (codes "d") ∷ []) ∷ [])
joins = record {
  pieces = plain (codes "a") ∷ join feed ∷ plain (codes "b") ∷ join return_feed ∷ plain (codes "c") ∷ newline ∷ plain (codes "d") ∷ [];
  reading = record { spelled = refl; stand = refl };
  closed = refl;
  rules_are = refl;
}

-- in brackets: white space, `#` and `[` are plain, `\]` is `]`, a join is a space; what follows is a new token
brackets : Spells (codes "[a #[\\]\\\n]b[c]\\") (rule 1 (quoted (codes "a #[] ") ∷ word (codes "b[c]\\") ∷ []) ∷ [])
brackets = record {
  pieces = bracket (single 97 ∷ single 32 ∷ single 35 ∷ single 91 ∷ escaped ∷ joined feed ∷ []) ∷ plain (codes "b[c]\\") ∷ [];
  reading = record { spelled = refl; stand = refl };
  closed = refl;
  rules_are = refl;
}

-- a bracket that is open at the end of its joined line, whose first line is the second
left_open : IsFirstFault (codes "a\nb [c\\\n#\nd") (record { line = 2; kind = OpenBracket })
left_open = record {
  short = lit≤ tt;
  no_nul = refl;
  pieces = plain (codes "a") ∷ newline ∷ plain (codes "b") ∷ white 32 ∷ open_bracket (single 99 ∷ joined feed ∷ single 35 ∷ []) ∷ newline ∷ plain (codes "d") ∷ [];
  reading = record { spelled = refl; stand = refl };
  fault_is = refl;
}

-- a NUL byte counts before the open bracket, at its physical line
nul : IsFirstFault (codes "[\nb\\\n" ++ 0 ∷ []) (record { line = 3; kind = NulByte })
nul = record { short = lit≤ tt; place = 5; first = (lit< tt, refl, refl); line_is = refl }
