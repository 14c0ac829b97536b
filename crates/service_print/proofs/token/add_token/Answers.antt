use Rattle.std.proofs.Common.{sym}
use Rattle.service_print.specs.Tokens.{token_text}
use Rattle.service_print.proofs.AppendedTextFacts.{three}
use Rattle.service_print.proofs.token.add_token.Goals as goal

pub returns-in_ok-push-2 : goal.returns-in_ok-push-2
unfolding token_text
returns-in_ok-push-2 c =
    rw (sym c.if-wants_brackets.ensures)
    (three _ _ _ _ _ _ _ c.in_ok-push.ensures.items c.in_ok-add_escaped.ensures c.in_ok-push-2.ensures.items)

pub returns-in_ok-extend_from_slice : goal.returns-in_ok-extend_from_slice
unfolding token_text
returns-in_ok-extend_from_slice c = rw (sym c.if-wants_brackets.ensures) c.in_ok-extend_from_slice.ensures.items
