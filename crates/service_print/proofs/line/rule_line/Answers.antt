use Rattle.std.proofs.Common.{ap, ◌∙◌, ◌++◌, List, ℕ}
use Rattle.service_print.specs.Tokens.{token_text}
use Rattle.service_print.proofs.LineFieldFacts.{fields_begun}
use Rattle.service_print.proofs.line.rule_line.Goals as goal

pub loop-arg-init : goal.loop-arg-init
loop-arg-init c =
    rw (c.items-arg-items.ensures)
    (fields_begun _ _ _ _ _ _ _ c.in_ok-line.ensures c.in_ok-push.ensures.items c.in_ok-add_control.ensures c.in_ok-push-2.ensures.items
    (c.in_ok-add_token.ensures ∙ ap (λ (t : List ℕ). c.push-2.new.self.items ++ token_text t) c.bytes.ensures))
