-- The result for a text, from what was found in it.
use Rattle.std.proofs.Common.{◌≡◌, ℕ, ◌≤◌, ◌<◌, List, length, Some, None, Result, Err, refl}
use Rattle.std.proofs.lemmas.Bool.{lt-ltb, le-ltb}
use Rattle.pam_base.specs.declared.fault.Refuse.{Refuse}
use Rattle.pam_base.specs.declared.fault.FaultKind.TheVariants.{NulByte, FileTooLong}
use Rattle.conf_lex.specs.declared.token.RawRule.{RawRule}
use Rattle.conf_lex.specs.declared.token.LexFault.{LexFault}
use Rattle.conf_lex.specs.Lexing.{Gives, nul_line, before_nul, answer_at}
use Rattle.conf_lex.specs.Answer.{answer_to}
use Rattle.conf_lex.proofs.NulByteFacts.{nul_none, before_whole}

pub answer_long : (text : List ℕ) → 65536 < length text → answer_to text ≡ Err (record { line = 0; kind = FileTooLong })
unfolding answer_to
answer_long text long = rw (lt-ltb 65536 (length text) long) refl

pub answer_nul : (text : List ℕ) (line : ℕ) → length text ≤ 65536 → Some line ≡ nul_line 1 text → answer_to text ≡ Err (record { line = line; kind = NulByte })
unfolding answer_to
answer_nul text line short nul = rw (le-ltb 65536 (length text) short, ← nul) refl

pub answer_lines : (text : List ℕ) (result : Result (List RawRule) (Refuse LexFault)) → length text ≤ 65536 → None ≡ nul_line 1 text
    → Gives result (answer_at 1 (before_nul text)) → Gives result (answer_to text)
unfolding answer_to
answer_lines text result short nul given =
    let at : Gives result (answer_at 1 text) = rw (before_whole text (nul_none 1 text nul)) at given in
    rw (le-ltb 65536 (length text) short, ← nul) at
