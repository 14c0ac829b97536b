use Rattle.std.proofs.Common.{◌≡◌, ◌+◌, ◌-◌, List, ℕ, drop, true}
use Rattle.explain_origins.specs.Placed.{Placed}
use Rattle.explain_origins.specs.Reading.{placed_at}
use Rattle.explain_origins.proofs.FileRuleFacts.{Going}
use Rattle.service_load.specs.Files.{is_in_directory, plain_file}
use Rattle.service_load.specs.Loading.{OnlyCalls, texts_of}
use Rattle.explain_origins.specs.contracts.files.add_file.{dyn-1-ghosts}
use Rattle.explain_origins.specs.contracts.files.add_file.dyn-1 as borrowed
use Rattle.explain_origins.proofs.files.+add_file.Given as goal

abbrev pub decreases-add_file : goal.decreases-add_file
decreases-add_file g l = 18 - l.level

abbrev pub invariant-loop-rule : goal.invariant-loop-rule
invariant-loop-rule g l =
    let now = borrowed.members (dyn-1-ghosts g.dyn-1) l.vault.now in
    let start = borrowed.members (dyn-1-ghosts g.dyn-1) l.fn.vault.now in
    let first = start.vault_holds l.fn.vault.now.1 in
    let deeper : List ℕ → Placed = λ name. placed_at (texts_of l.root first) (l.level + 1) l.rule_type (plain_file name) in
    record {
      tells : now.vault_tells l.vault.now.1 ≡ start.vault_tells l.fn.vault.now.1;
      going : start.vault_tells l.fn.vault.now.1 ≡ true →
          Going deeper l.rule_type l.file.name (is_in_directory l.file) l.file.service l.rule-items (drop l.rule-index l.rule-items) l.fn.origins l.origins l.any;
      stays : start.vault_tells l.fn.vault.now.1 ≡ true → OnlyCalls first (now.vault_holds l.vault.now.1);
      faults : now.vault_faults l.vault.now.1 ≡ start.vault_faults l.fn.vault.now.1;
    }
