use Rattle.mod_env.proofs.SetVariableFacts.{looked}
use Rattle.mod_env.proofs.setting.set_variable.Goals as goal

pub returns-clause-told : goal.returns-clause-told
returns-clause-told g c = λ tells conv clock act code end rest.
    let vault = (goal.Vault-dyn g (c.args.vault.now.0, c.look.new.vault)).vault_holds c.look.new.vault in
    looked c.args.entry.now _ _ _ _ _ (rw c.asks_account-asks.ensures at (c.in_ok-look.ensures.told tells conv clock)) act code end
    ((rw (c.as_ref.ensures.value, c.in_ok-account.ensures, c.asks_account-asks.ensures) at (c.in_ok-fits.ensures.told conv vault clock c.args.asked.now.process.now)) act _ code end rest)
