use Rattle.std.proofs.Common.{◌≡◌, Bool, length, IsTrue}
use Rattle.conv_port.specs.Conv.{ConvState}
use Rattle.pam_base.specs.declared.code.Code.{Code}
use Rattle.pam_outside.specs.Time.{ClockState}
use Rattle.module_acts.specs.pam_room.specs.State.{Scene}
use Rattle.module_acts.specs.Act.{Act, Acts, scene_at}
use Rattle.mod_env.specs.Env.{sets_all}
use Rattle.mod_env.specs.Puts.{Puts}
use Rattle.mod_env.proofs.setting.set_all.Given as goal

abbrev pub invariant-loop-rest : goal.invariant-loop-rest
invariant-loop-rest g l = record {
  tells : (goal.Vault-dyn g l.vault.now).vault_tells l.vault.now.1 ≡ (goal.Vault-dyn g l.fn.vault.now).vault_tells l.fn.vault.now.1;
  files : IsTrue ((goal.Vault-dyn g l.fn.vault.now).vault_tells l.fn.vault.now.1) →
      ((goal.Vault-dyn g l.vault.now).vault_holds l.vault.now.1).files ≡ ((goal.Vault-dyn g l.fn.vault.now).vault_holds l.fn.vault.now.1).files;
  told : IsTrue ((goal.Vault-dyn g l.fn.vault.now).vault_tells l.fn.vault.now.1) → (conv : ConvState) (clock : ClockState) (act : Bool → Act) (code : Code) (end : Scene) →
      Acts (sets_all l.rest act) l.accounts (scene_at l.transaction conv ((goal.Vault-dyn g l.vault.now).vault_holds l.vault.now.1) clock l.asked.process.now) code end →
      Acts (sets_all l.entries act) l.fn.accounts (scene_at l.fn.transaction conv ((goal.Vault-dyn g l.fn.vault.now).vault_holds l.fn.vault.now.1) clock l.asked.process.now) code end;
  puts : Puts l.fn.transaction l.transaction;
}

abbrev pub decreases-loop-rest : goal.decreases-loop-rest
decreases-loop-rest g l = length l.rest
