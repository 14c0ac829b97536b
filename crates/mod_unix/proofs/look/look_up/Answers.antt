use Rattle.std.proofs.Common.{◌∙◌}
use Rattle.mod_unix.specs.Look.{after_passwd, field_in, looks, shadow_in}
use Rattle.mod_unix.proofs.Looking_up.{in_shadow, not_in_shadow}
use Rattle.mod_unix.proofs.look.look_up.Goals as goal

pub returns-in-Unreadable-clause-told : goal.returns-in-Unreadable-clause-told
unfolding looks
returns-in-Unreadable-clause-told g c = λ tells room clock act known code end rest.
    c.in_ok-content.ensures.told tells room clock (λ k. after_passwd c.args.user.now (field_in c.args.user.now k) act) known code end (rw (← c.in_ok-field_in.ensures, c.in-Unreadable.is) rest)

pub returns-in-Missing-clause-told : goal.returns-in-Missing-clause-told
unfolding looks
returns-in-Missing-clause-told g c = λ tells room clock act known code end rest.
    c.in_ok-content.ensures.told tells room clock (λ k. after_passwd c.args.user.now (field_in c.args.user.now k) act) known code end (rw (← c.in_ok-field_in.ensures, c.in-Missing.is) rest)

pub returns-then-not-is_x-clause-told : goal.returns-then-not-is_x-clause-told
unfolding looks
returns-then-not-is_x-clause-told g c = λ tells room clock act known code end rest.
    c.in_ok-content.ensures.told tells room clock (λ k. after_passwd c.args.user.now (field_in c.args.user.now k) act) known code end (rw (← c.in_ok-field_in.ensures, c.in-Holds.is)
    (not_in_shadow c.args.user.now c.in-Holds.hash act known _ _ _ (rw c.bytes.ensures at c.if-not-is_x.ensures) rest))

pub returns-clause-told : goal.returns-clause-told
unfolding looks
returns-clause-told g c = λ tells room clock act known code end rest.
    c.in_ok-content.ensures.told tells room clock (λ k. after_passwd c.args.user.now (field_in c.args.user.now k) act) known code end (rw (← c.in_ok-field_in.ensures, c.in-Holds.is)
    (in_shadow c.args.user.now c.in-Holds.hash act known _ _ _ (rw c.bytes.ensures at c.if-not-is_x.ensures)
    (c.in_ok-content-2.ensures.told (c.in_ok-content.ensures.tells ∙ tells) room clock (λ k. act (shadow_in c.args.user.now k)) known code end (rw (← c.in_ok-look.ensures) rest))))
