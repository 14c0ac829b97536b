use Rattle.std.proofs.Common.{◌≡◌, drop, true}
use Rattle.service_load.specs.Load.{AreBounded}
use Rattle.service_load.specs.Loading.{counts_of}
use Rattle.service_load.proofs.StackTreeFacts.{Making}
use Rattle.service_load.proofs.loader.Loader.trees.Given as goal

abbrev pub invariant-loop-rule_type : goal.invariant-loop-rule_type
invariant-loop-rule_type g l =
    let now = goal.Vault-dyn g l.vault.now in
    let start = goal.Vault-dyn g l.fn.vault.now in
    let first = start.vault_holds l.fn.vault.now.1 in
    record {
      tells : now.vault_tells l.vault.now.1 ≡ start.vault_tells l.fn.vault.now.1;
      making : start.vault_tells l.fn.vault.now.1 ≡ true →
          Making l.root first (now.vault_holds l.vault.now.1) (counts_of l.fn.self first) l.self l.files.own l.files.other l.trees (drop l.rule_type-index l.rule_type-items);
      bounded : AreBounded l.trees;
      faults : now.vault_faults l.vault.now.1 ≡ start.vault_faults l.fn.vault.now.1;
    }
