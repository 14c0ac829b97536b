use Rattle.std.proofs.Common.{◌≡◌, ◌-◌, length, true}
use Rattle.std.specs.Vec.Iter.{into_iter_items, into_iter_len}
use Rattle.control_words.specs.Stack.{stack_of}
use Rattle.service_load.specs.Loading.{Grows, OnlyCalls, counts_of, texts_of}
use Rattle.service_load.proofs.FileEntryFacts.{Going}
use Rattle.service_load.specs.contracts.loader.Loader.add_file.{dyn-1-ghosts}
use Rattle.service_load.specs.contracts.loader.Loader.add_file.dyn-1 as borrowed
use Rattle.service_load.proofs.loader.Loader.+add_file.Given as goal

abbrev pub decreases-add_file : goal.decreases-add_file
decreases-add_file g l = 18 - l.at.level

abbrev pub invariant-loop-entry : goal.invariant-loop-entry
invariant-loop-entry g l =
    let now = borrowed.members (dyn-1-ghosts g.dyn-1) l.vault.now in
    let opened = borrowed.members (dyn-1-ghosts g.dyn-1) l.initial.vault.now in
    let start = borrowed.members (dyn-1-ghosts g.dyn-1) l.fn.vault.now in
    let first = start.vault_holds l.fn.vault.now.1 in
    let texts = texts_of l.at.root.now first in
    record {
      tells : now.vault_tells l.vault.now.1 ≡ start.vault_tells l.fn.vault.now.1;
      going : start.vault_tells l.fn.vault.now.1 ≡ true →
          Going texts first.fails (counts_of l.initial.self (opened.vault_holds l.initial.vault.now.1)) (counts_of l.self (now.vault_holds l.vault.now.1)) l.at.level l.at.rule_type l.file.name
          (into_iter_items l.initial.entry-iterator) (into_iter_items l.entry-iterator) (stack_of l.initial.nodes.vec.items) (stack_of l.nodes.vec.items);
      stays : start.vault_tells l.fn.vault.now.1 ≡ true → OnlyCalls first (now.vault_holds l.vault.now.1);
      grows : Grows l.at.level l.initial.self l.self (stack_of l.initial.nodes.vec.items) (stack_of l.nodes.vec.items);
      faults : now.vault_faults l.vault.now.1 ≡ opened.vault_faults l.initial.vault.now.1;
      counted : into_iter_len l.entry-iterator ≡ length (into_iter_items l.entry-iterator);
    }
