use Rattle.std.proofs.Common.{◌≡◌, ◌∙◌, Err, refl, rules, sym}
use Rattle.conv_port.specs.Conv.{ConvState}
use Rattle.mod_unix.proofs.StoredTokenFacts.{not_replied, not_same, same, there}
use Rattle.mod_unix.proofs.new_token.take_token.Goals as goal

pub returns-then-has_argument-clause-told : goal.returns-then-has_argument-clause-told
returns-then-has_argument-clause-told g c = λ talks vault clock process.
    there _ _ _ c.act_steps.ensures.seeing _ _ c.if-has_argument.ensures c.in_ok-token.ensures.usable c.get_item.ensures refl

pub returns-in_err-replies-clause-told : goal.returns-in_err-replies-clause-told
returns-in_err-replies-clause-told g c = λ talks vault clock process.
    let answered : c.from_residual-in_err-replies.result ≡ Err c.in_err-replies.field-0.0 = search rules in
    rw answered (not_replied _ _ _ _ c.if-has_argument.ensures (rw c.in_ok-prompts.ensures at (c.in_err-replies.ensures.told talks vault clock process)))

pub returns-in-Some-clause-told : goal.returns-in-Some-clause-told
returns-in-Some-clause-told g c = λ talks vault clock process.
    let set = λ (conv : ConvState). rw c.bytes.ensures at (c.in_ok-set_token-in-Some.ensures.told conv vault clock process) in
    same _ _ _ c.in_ok-replies.replies c.in-Some.token _ c.if-has_argument.ensures (rw c.in_ok-prompts.ensures at (c.in_ok-replies.ensures.told talks vault clock process)) (sym c.in-Some.is ∙ c.in_ok-token-2.ensures.same)
    (set _)

pub returns-clause-told : goal.returns-clause-told
returns-clause-told g c = λ talks vault clock process.
    not_same _ _ _ c.in_ok-replies.replies c.if-has_argument.ensures (rw c.in_ok-prompts.ensures at (c.in_ok-replies.ensures.told talks vault clock process)) (sym c.in-None.is ∙ c.in_ok-token-2.ensures.same)
