use Rattle.std.proofs.Common.{◌≡◌, ◌==◌, true, false, refl, arith}
use Rattle.std.proofs.lemmas.Bool.Decides.{nat_tests}
use Rattle.mod_unix.proofs.FirstPassFacts.{asks, empty_is, is_early, is_open, is_root}
use Rattle.mod_unix.proofs.change.try_change.Goals as goal

pub returns-then-change-eq0-clause-told : goal.returns-then-change-eq0-clause-told
returns-then-change-eq0-clause-told g c = λ talks vault clock.
    let root : true ≡ (c.args.change.now.job.now.process.now.caller == 0) = grind (arith, nat_tests) in
    is_root c.acting.ensures.caller _ _ _ _ root refl

pub returns-then-is_too_early-clause-told : goal.returns-then-is_too_early-clause-told
returns-then-is_too_early-clause-told g c = λ talks vault clock.
    let other : false ≡ (c.args.change.now.job.now.process.now.caller == 0) = grind (arith, nat_tests) in
    is_early c.acting.ensures.caller _ _ _ _ other c.if-is_too_early.ensures refl

pub returns-then-is_empty-clause-told : goal.returns-then-is_empty-clause-told
returns-then-is_empty-clause-told g c = λ talks vault clock.
    let other : false ≡ (c.args.change.now.job.now.process.now.caller == 0) = grind (arith, nat_tests) in
    is_open c.acting.ensures.caller _ _ _ _ other c.if-is_too_early.ensures (empty_is _ _ c.if-is_empty.ensures) refl

pub returns-clause-told : goal.returns-clause-told
returns-clause-told g c = λ talks vault clock.
    let other : false ≡ (c.args.change.now.job.now.process.now.caller == 0) = grind (arith, nat_tests) in
    asks c.acting.ensures.caller _ _ _ _ c.ask_old.result other c.if-is_too_early.ensures (empty_is _ _ c.if-is_empty.ensures)
    (c.ask_old.ensures.told talks vault clock _)
