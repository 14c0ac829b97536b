use Rattle.std.proofs.Common.{sym, ◌∙◌}
use Rattle.script_lang.proofs.Words.{word_at-text, word_at-other}
use Rattle.script_lang.proofs.cut.word_at.Goals as goal

pub returns-then-is_text : goal.returns-then-is_text
returns-then-is_text c = word_at-text c.args.place c.args.before c.args.line.now c.in_ok-rest.rest.now c.in_ok-rest.ensures (sym c.is_text.ensures ∙ c.if-is_text.true)

pub returns-else-is_text : goal.returns-else-is_text
returns-else-is_text c =
    rw c.first_word.ensures (word_at-other c.args.place c.args.before c.args.line.now c.in_ok-rest.rest.now c.in_ok-rest.ensures (sym c.is_text.ensures ∙ c.if-is_text.false))
