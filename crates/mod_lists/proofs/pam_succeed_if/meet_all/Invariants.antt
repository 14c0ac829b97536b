use Rattle.std.proofs.Common.{◌≡◌, length, IsTrue}
use Rattle.conv_port.specs.Conv.{ConvState}
use Rattle.pam_base.specs.declared.code.Code.{Code}
use Rattle.pam_outside.specs.Time.{ClockState}
use Rattle.pam_room.specs.State.{Scene}
use Rattle.module_acts.specs.Accounts.{nothing_known}
use Rattle.module_acts.specs.Act.{Acts}
use Rattle.module_acts.specs.Seen.{scene_seen, user_seen}
use Rattle.mod_lists.specs.SucceedIf.{meets_all}
use Rattle.mod_lists.proofs.pam_succeed_if.meet_all.Given as goal

abbrev pub invariant-loop-rest : goal.invariant-loop-rest
invariant-loop-rest g l = record {
  tells : (goal.Vault-dyn g l.vault.now).vault_tells l.vault.now.1 ≡ (goal.Vault-dyn g l.fn.vault.now).vault_tells l.fn.vault.now.1;
  files : IsTrue ((goal.Vault-dyn g l.fn.vault.now).vault_tells l.fn.vault.now.1) →
      ((goal.Vault-dyn g l.vault.now).vault_holds l.vault.now.1).files ≡ ((goal.Vault-dyn g l.fn.vault.now).vault_holds l.fn.vault.now.1).files;
  told : IsTrue ((goal.Vault-dyn g l.fn.vault.now).vault_tells l.fn.vault.now.1) → (conv : ConvState) (clock : ClockState) (code : Code) (end : Scene) →
      Acts (meets_all l.rest (user_seen l.seen)) l.accounts (scene_seen l.seen conv ((goal.Vault-dyn g l.vault.now).vault_holds l.vault.now.1) clock) code end →
      Acts (meets_all l.conditions (user_seen l.seen)) nothing_known (scene_seen l.seen conv ((goal.Vault-dyn g l.fn.vault.now).vault_holds l.fn.vault.now.1) clock) code end;
}

abbrev pub decreases-loop-rest : goal.decreases-loop-rest
decreases-loop-rest g l = length l.rest
