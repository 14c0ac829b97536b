use Rattle.std.proofs.Common.{refl, ◌∙◌}
use Rattle.pam_base.specs.declared.fault.FaultKind.TheVariants.{FileTooLong, NulByte}
use Rattle.conf_lex.proofs.NulByteFacts.{nul_none, before_whole, nul_place}
use Rattle.conf_lex.proofs.FirstFaultFacts.{nul_here, nul_given, nul_first, gives_read, gives_tokens, gives_spelled, gives_fault, gives_first, gives_long, gives_nul}
use Rattle.conf_lex.proofs.Answered.{answer_long, answer_nul, answer_lines}
use Rattle.conf_lex.proofs.service_file.rules.Goals as goal

pub returns-then-text-gt-MAX_TEXT-clause-spelled : goal.returns-then-text-gt-MAX_TEXT-clause-spelled
returns-then-text-gt-MAX_TEXT-clause-spelled c = λ rules none s. absurd (none (record { line = 0; kind = FileTooLong }) (c.if-text-gt-MAX_TEXT.true, refl))

pub returns-in-Some-clause-spelled : goal.returns-in-Some-clause-spelled
returns-in-Some-clause-spelled c = let at = nul_place 1 c.args.text.now c.in-Some.line (c.in-Some.ensures ∙ c.rules-answer.ensures.moves.nul) in λ rules none s. absurd (none (record { line = _; kind = NulByte }) (nul_here _ c.if-text-gt-MAX_TEXT.false at.place at.first))

pub returns-in-Some-clause-fault : goal.returns-in-Some-clause-fault
returns-in-Some-clause-fault c = let at = nul_place 1 c.args.text.now c.in-Some.line (c.in-Some.ensures ∙ c.rules-answer.ensures.moves.nul) in record { short = c.if-text-gt-MAX_TEXT.false; place = at.place; first = at.first; line_is = at.line_is }

pub returns-in-Some-clause-first : goal.returns-in-Some-clause-first
returns-in-Some-clause-first c = let at = nul_place 1 c.args.text.now c.in-Some.line (c.in-Some.ensures ∙ c.rules-answer.ensures.moves.nul) in nul_first _ c.if-text-gt-MAX_TEXT.false at.place at.first _ at.line_is

pub returns-in-Some-clause-nul_byte : goal.returns-in-Some-clause-nul_byte
returns-in-Some-clause-nul_byte c = let at = nul_place 1 c.args.text.now c.in-Some.line (c.in-Some.ensures ∙ c.rules-answer.ensures.moves.nul) in λ line. nul_given _ c.if-text-gt-MAX_TEXT.false at.place at.first _ line at.line_is

pub returns-in-None-clause-read : goal.returns-in-None-clause-read
returns-in-None-clause-read c = let no_nul = nul_none 1 c.args.text.now (c.in-None.ensures ∙ c.rules-answer.ensures.moves.nul) in gives_read c.args.text.now c.if-text-gt-MAX_TEXT.false no_nul _ (rw (before_whole c.args.text.now no_nul) at c.rules-answer.ensures.given)

pub returns-in-None-clause-spelled : goal.returns-in-None-clause-spelled
returns-in-None-clause-spelled c = let no_nul = nul_none 1 c.args.text.now (c.in-None.ensures ∙ c.rules-answer.ensures.moves.nul) in gives_spelled c.args.text.now c.if-text-gt-MAX_TEXT.false no_nul _ (rw (before_whole c.args.text.now no_nul) at c.rules-answer.ensures.given)

pub returns-in-None-clause-fault : goal.returns-in-None-clause-fault
returns-in-None-clause-fault c = let no_nul = nul_none 1 c.args.text.now (c.in-None.ensures ∙ c.rules-answer.ensures.moves.nul) in gives_fault c.args.text.now c.if-text-gt-MAX_TEXT.false no_nul _ (rw (before_whole c.args.text.now no_nul) at c.rules-answer.ensures.given)

pub returns-in-None-clause-first : goal.returns-in-None-clause-first
returns-in-None-clause-first c = let no_nul = nul_none 1 c.args.text.now (c.in-None.ensures ∙ c.rules-answer.ensures.moves.nul) in gives_first c.args.text.now c.if-text-gt-MAX_TEXT.false no_nul _ (rw (before_whole c.args.text.now no_nul) at c.rules-answer.ensures.given)

pub returns-in-None-clause-file_too_long : goal.returns-in-None-clause-file_too_long
returns-in-None-clause-file_too_long c = let no_nul = nul_none 1 c.args.text.now (c.in-None.ensures ∙ c.rules-answer.ensures.moves.nul) in gives_long c.args.text.now c.if-text-gt-MAX_TEXT.false no_nul _ (rw (before_whole c.args.text.now no_nul) at c.rules-answer.ensures.given)

pub returns-in-None-clause-nul_byte : goal.returns-in-None-clause-nul_byte
returns-in-None-clause-nul_byte c = let no_nul = nul_none 1 c.args.text.now (c.in-None.ensures ∙ c.rules-answer.ensures.moves.nul) in gives_nul c.args.text.now c.if-text-gt-MAX_TEXT.false no_nul _ (rw (before_whole c.args.text.now no_nul) at c.rules-answer.ensures.given)

pub returns-in-None-clause-tokens : goal.returns-in-None-clause-tokens
returns-in-None-clause-tokens c = let no_nul = nul_none 1 c.args.text.now (c.in-None.ensures ∙ c.rules-answer.ensures.moves.nul) in gives_tokens _ _ (gives_read c.args.text.now c.if-text-gt-MAX_TEXT.false no_nul _ (rw (before_whole c.args.text.now no_nul) at c.rules-answer.ensures.given))

pub returns-then-text-gt-MAX_TEXT-clause-whole : goal.returns-then-text-gt-MAX_TEXT-clause-whole
returns-then-text-gt-MAX_TEXT-clause-whole c = answer_long c.args.text.now c.if-text-gt-MAX_TEXT.true

pub returns-in-Some-clause-whole : goal.returns-in-Some-clause-whole
returns-in-Some-clause-whole c = answer_nul c.args.text.now c.in-Some.line c.if-text-gt-MAX_TEXT.false (c.in-Some.ensures ∙ c.rules-answer.ensures.moves.nul)

pub returns-in-None-clause-whole : goal.returns-in-None-clause-whole
returns-in-None-clause-whole c = answer_lines c.args.text.now _ c.if-text-gt-MAX_TEXT.false (c.in-None.ensures ∙ c.rules-answer.ensures.moves.nul) c.rules-answer.ensures.given
