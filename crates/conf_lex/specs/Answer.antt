-- The result for a text as a plain function (this project's own): it computes what `Spells` and
-- `IsFirstFault` say.
use Rattle.std.specs.Prelude.{ℕ, List, Option, Some, None, Result, Err, length, nat_lt, if◌then◌else◌}
use Rattle.pam_base.specs.declared.fault.FaultKind.TheVariants.{NulByte, FileTooLong}
use Rattle.conf_lex.specs.declared.token.RawRule.{RawRule}
use Rattle.conf_lex.specs.declared.token.LexFault.{LexFault}
use Rattle.conf_lex.specs.Lexing.{nul_line, answer_at}

-- the result, given whether the first NUL byte is in this line
abbrev pub answer_unless_nul : Option ℕ → List ℕ → Result (List RawRule) LexFault
answer_unless_nul (Some line) text = Err (record { line = line; kind = NulByte })
answer_unless_nul None text = answer_at 1 text

-- the rules of a text, or its first fault
unfoldable pub answer_to : List ℕ → Result (List RawRule) LexFault
answer_to text = if nat_lt 65536 (length text) then Err (record { line = 0; kind = FileTooLong })
    else answer_unless_nul (nul_line 1 text) text
