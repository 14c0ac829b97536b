use Rattle.std.proofs.Common.{◌≡◌, refl, sym, ap, ◌∙◌, Bool}
use denote.Param.Object.{read_made}
use Rattle.pam_outside.specs.Files.{VaultState}
use Rattle.own_files.specs.Own.{OwnStore, files_for}
use Rattle.pam_service_user.specs.Own.{own_name}
use Rattle.pam_service_user.proofs.run.OwnLists.{own-1, at-1-1, own-2, at-2-1}
use Rattle.pam_service_user.proofs.run.Goals as goal

pub serve_user-requires-clause-clock : goal.serve_user-requires-clause-clock
serve_user-requires-clause-clock c = read_made own-2 _ at-2-1 refl Bool (λ j w. j.1.clock_tells w) _ _ _ c.into_dyn_box-in_ok-new-2.ensures.1

same_user : {V : Type 0} (one other : OwnStore V) → one ≡ other → files_for one.user ≡ files_for other.user
same_user {V} one other e = ap (λ (o : OwnStore V). files_for o.user) e

pub serve_user-requires-clause-own : goal.serve_user-requires-clause-own
serve_user-requires-clause-own c =
    read_made own-1 _ at-1-1 refl VaultState (λ j w. j.1.vault_holds w) _ _ _ c.into_dyn_box.ensures.1
    ∙ (same_user _ _ c.in_ok-new.ensures.ok
    ∙ ap files_for (c.files_of.ensures.user ∙ (c.in_ok-command.ensures.user ∙ ap (own_name _) (sym c.of-accounts.ensures))))
