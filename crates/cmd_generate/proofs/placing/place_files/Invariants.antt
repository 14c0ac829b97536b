use Rattle.std.proofs.Common.{◌≡◌, IsTrue, drop}
use Rattle.pam_outside.specs.Files.{VaultState}
use Rattle.cmd_generate.specs.Placing.{PlacesSome, placed}
use Rattle.cmd_generate.proofs.placing.place_files.Given as goal

abbrev pub invariant-loop-file : goal.invariant-loop-file
invariant-loop-file g l = record {
  tells : (goal.Vault-dyn g l.vault.now).vault_tells l.vault.now.1 ≡ (goal.Vault-dyn g l.fn.vault.now).vault_tells l.fn.vault.now.1;
  told : IsTrue ((goal.Vault-dyn g l.fn.vault.now).vault_tells l.fn.vault.now.1) →
      placed l.files ((goal.Vault-dyn g l.fn.vault.now).vault_holds l.fn.vault.now.1)
      ≡ placed (drop l.file-index l.files) ((goal.Vault-dyn g l.vault.now).vault_holds l.vault.now.1);
  some : IsTrue ((goal.Vault-dyn g l.fn.vault.now).vault_tells l.fn.vault.now.1) →
      (u : VaultState) → PlacesSome (drop l.file-index l.files) ((goal.Vault-dyn g l.vault.now).vault_holds l.vault.now.1) u
      → PlacesSome l.files ((goal.Vault-dyn g l.fn.vault.now).vault_holds l.fn.vault.now.1) u;
}
