use Rattle.std.proofs.Common.{◌∙◌, sym}
use Rattle.mod_unix.proofs.StoredTokenFacts.{changed, not_changed}
use Rattle.mod_unix.proofs.store.change_locked.Goals as goal

pub returns-in-None-clause-told : goal.returns-in-None-clause-told
returns-in-None-clause-told g c = λ tells room clock.
    not_changed _ _ c.args.change.now.today c.in_ok-content.content _ _ (λ act. c.in_ok-content.ensures.told tells room clock act)
    (sym c.in-None.is ∙ c.in_ok-text.ensures)

pub returns-clause-told : goal.returns-clause-told
returns-clause-told g c = λ tells room clock.
    rw c.write_result.ensures (changed _ _ c.args.change.now.today c.in_ok-content.content _ _
    (λ act. c.in_ok-content.ensures.told tells room clock act) _ c.in-Some.text c.in_ok-done.done (sym c.in-Some.is ∙ c.in_ok-text.ensures)
    (rw c.bytes.ensures at (c.in_ok-done.ensures.told (c.in_ok-content.ensures.tells ∙ tells) room clock)))
