use Rattle.std.proofs.Common.{sym, ◌∙◌}
use Rattle.std.proofs.lemmas.Bool.{eqb-true}
use Rattle.conf_lex.proofs.JoinedLineFacts.{answer_end}
use Rattle.conf_lex.proofs.lexer.Lexer.rules.Goals as goal

pub returns-clause-given : goal.returns-clause-given
returns-clause-given c = c.loop-alloc.invariant.answer ∙ answer_end _ _ _ (eqb-true _ _ (sym c.at_end.ensures ∙ c.loop-alloc-test.false))
