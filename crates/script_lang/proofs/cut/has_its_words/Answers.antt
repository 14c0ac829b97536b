use Rattle.std.proofs.Common.{not, sym, ap, ◌∙◌}
use Rattle.std.specs.Option.{is_some}
use Rattle.script_lang.proofs.Words.{text_fits, words_fit, is_some-map, flipped}
use Rattle.script_lang.proofs.cut.has_its_words.Goals as goal

pub returns-then-has_text : goal.returns-then-has_text
returns-then-has_text c =
    c.if-has_text.true ∙ text_fits c.args.places c.args.line.now c.wanted.result _ c.wanted.ensures c.after_words.ensures (sym (is_some-map _ c.after_words.result) ∙ sym c.is_some.ensures ∙ c.if-is_some.true) (sym c.has_text.ensures ∙ c.if-has_text.true)

pub returns-else-has_text : goal.returns-else-has_text
returns-else-has_text c =
    flipped (is_some c.after_words-else-has_text.result) c.is_none.result c.is_none.ensures
    ∙ ap not (is_some-map _ c.after_words-else-has_text.result)
    ∙ words_fit c.args.places c.args.line.now c.wanted.result _ c.wanted.ensures c.after_words.ensures _ c.most.result c.most.ensures (sym (is_some-map _ c.after_words.result) ∙ sym c.is_some.ensures ∙ c.if-is_some.true) (sym c.has_text.ensures ∙ c.if-has_text.false) c.after_words-else-has_text.ensures
