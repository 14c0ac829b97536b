use Rattle.std.proofs.Common.{◌≡◌, refl, sym, ◌∙◌}
use denote.Enum.Bare.{sameb}
use Rattle.pam_base.specs.contracts.code.Code as code
use Rattle.pam_base.specs.declared.code.Code.{Code}
use Rattle.pam_base.specs.declared.code.Code.TheVariants as returns
use Rattle.mod_unix.proofs.EarlierTokenFacts.{asks, lacks_token, tries, tries_nothing, tries_well, uses_token}
use Rattle.mod_unix.specs.Authenticate.{is_success}
use Rattle.mod_unix.proofs.authenticate.verify_token.Goals as goal

-- the comparison with SUCCESS
compared : (answer : Code) → sameb code.the_type answer returns.Success ≡ is_success answer
compared returns.Success = refl
compared answer = refl

pub returns-in-Some-clause-told : goal.returns-in-Some-clause-told
returns-in-Some-clause-told g c = λ talks vault clock process.
    uses_token c.act_steps.ensures.seeing _ _ _ _ _ _ c.if-has_argument.ensures c.in-Some.ensures c.verify.ensures refl

pub returns-in-None-clause-told : goal.returns-in-None-clause-told
returns-in-None-clause-told g c = λ talks vault clock process.
    lacks_token c.act_steps.ensures.seeing _ _ _ _ c.if-has_argument.ensures c.in-None.ensures refl

pub returns-then-not-has_argument-clause-told : goal.returns-then-not-has_argument-clause-told
returns-then-not-has_argument-clause-told g c = λ talks vault clock process.
    asks c.act_steps.ensures.seeing _ _ _ _ c.ask_password.result (c.ask_password.ensures.told talks vault clock process) c.if-has_argument.ensures
    c.if-not-has_argument.ensures

pub returns-in-None-get_item-clause-told : goal.returns-in-None-get_item-clause-told
returns-in-None-get_item-clause-told g c = λ talks vault clock process.
    tries_nothing c.act_steps.ensures.seeing _ _ _ _ c.ask_password-in-None-get_item.result
    (c.ask_password-in-None-get_item.ensures.told talks vault clock process) c.if-has_argument.ensures c.if-not-has_argument.ensures
    c.in-None-get_item.ensures

pub returns-then-eq-clause-told : goal.returns-then-eq-clause-told
returns-then-eq-clause-told g c = λ talks vault clock process.
    tries_well c.act_steps.ensures.seeing _ _ _ _ _ _ c.if-has_argument.ensures c.if-not-has_argument.ensures c.in-Some-get_item.ensures c.verify-code.ensures
    (sym c.if-eq.true ∙ c.eq.ensures ∙ compared _) refl

pub returns-clause-told : goal.returns-clause-told
returns-clause-told g c = λ talks vault clock process.
    tries c.act_steps.ensures.seeing _ _ _ _ c.ask_password-2.result (c.ask_password-2.ensures.told talks vault clock process) c.if-has_argument.ensures _ _
    c.if-not-has_argument.ensures c.in-Some-get_item.ensures c.verify-code.ensures (sym c.if-eq.false ∙ c.eq.ensures ∙ compared _)
