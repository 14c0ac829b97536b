use Rattle.std.proofs.Common.{◌≡◌, Some, None, ap, sym, ◌∙◌, ◌++◌, List, ℕ}
use Rattle.std.specs.Prelude.{option_map}
use Rattle.control_words.specs.Keyword.{keyword_word}
use Rattle.service_print.specs.Controls.{control_text, keyword_of}
use Rattle.service_print.proofs.AppendedTextFacts.{three}
use Rattle.service_print.proofs.control.add_control.Goals as goal

pub returns-in_ok-extend_from_slice-in-Some : goal.returns-in_ok-extend_from_slice-in-Some
unfolding control_text
returns-in_ok-extend_from_slice-in-Some c =
    let word : keyword_of c.args.control.now ≡ Some (keyword_word c.in-Some.keyword) = sym c.keyword_of.ensures ∙ ap (option_map keyword_word) c.in-Some.is in
    rw word (c.in_ok-extend_from_slice-in-Some.ensures.items ∙ ap (λ (t : List ℕ). c.args.line.now.items ++ t) (c.as_bytes.ensures.value ∙ c.word.ensures))

pub returns-in_ok-push-in-None-2 : goal.returns-in_ok-push-in-None-2
unfolding control_text
returns-in_ok-push-in-None-2 c =
    let none : keyword_of c.args.control.now ≡ None = sym c.keyword_of.ensures ∙ ap (option_map keyword_word) c.in-None.is in
    rw none
    (three _ _ _ _ _ _ _ c.in_ok-push-in-None.ensures.items c.in_ok-add_entries-in-None.ensures c.in_ok-push-in-None-2.ensures.items)
