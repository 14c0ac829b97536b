use Rattle.std.proofs.Common.{◌≡◌, ◌∙◌, [], Ok, Err, refl, sym, ap, rules}
use Rattle.std.specs.Vec.Iter.{into_iter_items, into_iter_len}
use Rattle.control_words.specs.Stack.{Stack, stack_of, joined}
use Rattle.service_load.specs.Loading.{counts_of, brought_in, opener_of, texts_of}
use Rattle.service_load.specs.Tree.{serves}
use Rattle.service_load.specs.contracts.loader.Loader.add_file.{dyn-1-ghosts}
use Rattle.service_load.specs.contracts.loader.Loader.add_file.dyn-1 as borrowed
use Rattle.service_load.proofs.FileEntryFacts.{grows_none, grows_in, grows_on, taking_stops, taking_looks, taking_adds, taking_grows, taking_file, all_stop, file_stops, going_none, going_past, file_since, brings_all, brings_stop, brings_absent, nothing_left, more_left}
use Rattle.service_load.proofs.loader.Loader.+add_file.Goals as goal

pub returns-in_default-clause-told : goal.returns-in_default-clause-told
returns-in_default-clause-told g t c = λ tells.
    let first = (borrowed.members (dyn-1-ghosts g.dyn-1) c.args.vault.now).vault_holds c.args.vault.now.1 in
    let old = (borrowed.members (dyn-1-ghosts g.dyn-1) (c.args.vault.now.0, c.open.new.vault)).vault_holds c.open.new.vault in
    let before = stack_of c.args.nodes.now.vec.items in
    brings_absent c.args.at.root.now first first old c.args.self.now c.open.new.self c.open.new.self c.args.at.level c.args.at.rule_type (opener_of c.args.at.opener) c.args.file.now [] before before
    (rw c.in_default.is at (c.in_ok-entries.ensures.told tells)) refl (c.in_ok-entries.ensures.stays tells)

pub loop-entry-init : goal.loop-entry-init
loop-entry-init g t c =
    let first = (borrowed.members (dyn-1-ghosts g.dyn-1) c.args.vault.now).vault_holds c.args.vault.now.1 in
    let old = (borrowed.members (dyn-1-ghosts g.dyn-1) (c.args.vault.now.0, c.open.new.vault)).vault_holds c.open.new.vault in
    let before = stack_of c.args.nodes.now.vec.items in
    record {
      tells = c.in_ok-entries.ensures.tells;
      going = λ tells. going_none (texts_of c.args.at.root.now first) first.fails (counts_of c.open.new.self old) c.args.at.level c.args.at.rule_type c.args.file.now.name (into_iter_items c.into_iter-entry-iterator.result) before;
      stays = λ tells. c.in_ok-entries.ensures.stays tells;
      grows = grows_none c.args.at.level c.open.new.self before c.in_ok-entries.ensures.level;
      faults = refl;
      counted = search rules;
    }

-- an entry with a line of its own, or with nothing for the type
pub loop-entry-preserved-in_default-2 : goal.loop-entry-preserved-in_default-2
loop-entry-preserved-in_default-2 g t c =
    let first = (borrowed.members (dyn-1-ghosts g.dyn-1) c.args.vault.now).vault_holds c.args.vault.now.1 in
    let here = (borrowed.members (dyn-1-ghosts g.dyn-1) c.loop-entry.vault.now).vault_holds c.loop-entry.vault.now.1 in
    let texts = texts_of c.args.at.root.now first in
    let inv = c.loop-entry.invariant in
    let steps = c.in-Some-entry.ensures.steps in
    let e = c.in-Some-entry.entry in
    let serving = serves c.args.at.rule_type e.rule_type in
    let takes = rw (c.in_default-2.is, c.bytes-name.ensures) at c.in_ok-inclusion.ensures in
    record {
      tells = inv.tells;
      going = λ tells. going_past texts first.fails _ (counts_of c.loop-entry.self here) c.args.at.level c.args.at.rule_type c.args.file.now.name _ _ _ _ e (counts_of c.take_entry.new.self here) _ (rw steps.0 at (inv.going tells))
          (taking_looks texts first.fails here _ _ _ _ c.args.at.level c.args.at.rule_type c.args.file.now.name e.line serving e.content takes)
          (taking_adds texts first.fails here _ _ _ _ c.args.at.level c.args.at.rule_type c.args.file.now.name e.line serving e.content takes);
      stays = inv.stays;
      grows = grows_on c.args.at.level _ _ _ _ _ _ inv.grows (taking_grows texts first.fails here _ _ _ _ c.args.at.level c.args.at.rule_type c.args.file.now.name e.line serving e.content inv.grows.within takes);
      faults = inv.faults;
      counted = more_left _ _ e _ _ steps.0 steps.1 inv.counted;
    }

-- an entry that includes a file
pub loop-entry-preserved : goal.loop-entry-preserved
loop-entry-preserved g t c =
    let root = c.args.at.root.now in
    let level = c.args.at.level in
    let type = c.args.at.rule_type in
    let name = c.args.file.now.name in
    let first = (borrowed.members (dyn-1-ghosts g.dyn-1) c.args.vault.now).vault_holds c.args.vault.now.1 in
    let here = (borrowed.members (dyn-1-ghosts g.dyn-1) c.loop-entry.vault.now).vault_holds c.loop-entry.vault.now.1 in
    let new = (borrowed.members (dyn-1-ghosts g.dyn-1) (c.loop-entry.vault.now.0, c.add_file.new.vault)).vault_holds c.add_file.new.vault in
    let now = stack_of c.loop-entry.nodes.vec.items in
    let inv = c.loop-entry.invariant in
    let steps = c.in-Some-entry.ensures.steps in
    let e = c.in-Some-entry.entry in
    let i = c.in-Some-2.inclusion in
    let takes = rw (c.in-Some-2.is, c.bytes-name.ensures) at c.in_ok-inclusion.ensures in
    let taken = taking_file (texts_of root first) first.fails here _ _ _ _ level type name e.line (serves type e.rule_type) e.content i takes in
    let brings = rw (c.bytes-name.ensures, c.new-inner.ensures) at c.in_ok-add_file.ensures in
    let added = rw taken.stack at c.in_ok-bring_in.ensures in
    let moved = λ (tells : _). file_since (Ok c.in_ok-add_file.field-0) root first here new _ _ level type name i _ (inv.stays tells) (brings.told (inv.tells ∙ tells)) in
    record {
      tells = brings.tells ∙ inv.tells;
      going = λ tells. going_past (texts_of root first) first.fails _ (counts_of c.loop-entry.self here) level type name _ _ _ now e (counts_of c.add_file.new.self new) _ (rw steps.0 at (inv.going tells))
          (rw (← taken.items, taken.loader) at (moved tells).looks) (added ∙ ap (λ (s : Stack). joined now (brought_in i.as_substack s)) (moved tells).nodes ∙ ap (joined now) (sym taken.nodes));
      stays = λ tells. (moved tells).stays;
      grows = rw added (grows_on level _ _ _ _ _ _ inv.grows (grows_in level _ _ now _ i.as_substack (rw taken.loader at brings.grows)));
      faults = brings.faults ∙ inv.faults;
      counted = more_left _ _ e _ _ steps.0 steps.1 inv.counted;
    }

pub returns-in_err-inclusion-clause-told : goal.returns-in_err-inclusion-clause-told
returns-in_err-inclusion-clause-told g t c = λ tells.
    let root = c.args.at.root.now in
    let level = c.args.at.level in
    let type = c.args.at.rule_type in
    let name = c.args.file.now.name in
    let first = (borrowed.members (dyn-1-ghosts g.dyn-1) c.args.vault.now).vault_holds c.args.vault.now.1 in
    let old = (borrowed.members (dyn-1-ghosts g.dyn-1) (c.args.vault.now.0, c.open.new.vault)).vault_holds c.open.new.vault in
    let here = (borrowed.members (dyn-1-ghosts g.dyn-1) c.loop-entry.vault.now).vault_holds c.loop-entry.vault.now.1 in
    let inv = c.loop-entry.invariant in
    let e = c.in-Some-entry.entry in
    let whole = c.into_iter-entry-iterator.ensures.into_iter_gives.0 ∙ c.into_vec-entry-items.ensures in
    let r = c.in_err-inclusion.field-0.0 in
    let answered : c.from_residual-in_err-inclusion.result ≡ Err r = search rules in
    let looks = taking_stops (texts_of root first) first.fails here _ _ _ _ level type name e.line (serves type e.rule_type) e.content r (rw c.bytes-name.ensures at c.in_err-inclusion.ensures) in
    rw answered (brings_stop root first old here _ c.open.new.self _ level type (opener_of c.args.at.opener) c.args.file.now c.in-Some.entries _ _ r (rw c.in-Some.is at (c.in_ok-entries.ensures.told tells))
    (all_stop (texts_of root first) first.fails r _ (counts_of c.loop-entry.self here) _ level type name c.in-Some.entries _ _ _ e (rw (c.in-Some-entry.ensures.steps.0, whole) at (inv.going tells)) looks) (inv.stays tells))

pub returns-in_err-add_file-clause-told : goal.returns-in_err-add_file-clause-told
returns-in_err-add_file-clause-told g t c = λ tells.
    let root = c.args.at.root.now in
    let level = c.args.at.level in
    let type = c.args.at.rule_type in
    let name = c.args.file.now.name in
    let first = (borrowed.members (dyn-1-ghosts g.dyn-1) c.args.vault.now).vault_holds c.args.vault.now.1 in
    let old = (borrowed.members (dyn-1-ghosts g.dyn-1) (c.args.vault.now.0, c.open.new.vault)).vault_holds c.open.new.vault in
    let here = (borrowed.members (dyn-1-ghosts g.dyn-1) c.loop-entry.vault.now).vault_holds c.loop-entry.vault.now.1 in
    let new = (borrowed.members (dyn-1-ghosts g.dyn-1) (c.loop-entry.vault.now.0, c.add_file.new.vault)).vault_holds c.add_file.new.vault in
    let inv = c.loop-entry.invariant in
    let e = c.in-Some-entry.entry in
    let i = c.in-Some-2.inclusion in
    let whole = c.into_iter-entry-iterator.ensures.into_iter_gives.0 ∙ c.into_vec-entry-items.ensures in
    let r = c.in_err-add_file.field-0.0 in
    let answered : c.from_residual-in_err-add_file.result ≡ Err r = search rules in
    let taken = taking_file (texts_of root first) first.fails here _ _ _ _ level type name e.line (serves type e.rule_type) e.content i (rw (c.in-Some-2.is, c.bytes-name.ensures) at c.in_ok-inclusion.ensures) in
    let moved = file_since (Err r) root first here new _ _ level type name i _ (inv.stays tells) (rw (c.bytes-name.ensures, c.new-inner.ensures) at (c.in_err-add_file.ensures.told (inv.tells ∙ tells))) in
    rw answered (brings_stop root first old new _ c.open.new.self _ level type (opener_of c.args.at.opener) c.args.file.now c.in-Some.entries _ _ r (rw c.in-Some.is at (c.in_ok-entries.ensures.told tells))
    (all_stop (texts_of root first) first.fails r _ (counts_of c.loop-entry.self here) _ level type name c.in-Some.entries _ _ _ e (rw (c.in-Some-entry.ensures.steps.0, whole) at (inv.going tells))
    (file_stops (texts_of root first) first.fails r _ _ _ _ taken.items (rw taken.loader at moved.looks))) moved.stays)

pub returns-clause-told : goal.returns-clause-told
returns-clause-told g t c = λ tells.
    let root = c.args.at.root.now in
    let first = (borrowed.members (dyn-1-ghosts g.dyn-1) c.args.vault.now).vault_holds c.args.vault.now.1 in
    let old = (borrowed.members (dyn-1-ghosts g.dyn-1) (c.args.vault.now.0, c.open.new.vault)).vault_holds c.open.new.vault in
    let here = (borrowed.members (dyn-1-ghosts g.dyn-1) c.loop-entry.vault.now).vault_holds c.loop-entry.vault.now.1 in
    let before = stack_of c.args.nodes.now.vec.items in
    let now = stack_of c.loop-entry.nodes.vec.items in
    let inv = c.loop-entry.invariant in
    let opens = rw c.in-Some.is at (c.in_ok-entries.ensures.told tells) in
    let whole = c.into_iter-entry-iterator.ensures.into_iter_gives.0 ∙ c.into_vec-entry-items.ensures in
    let empty = nothing_left (into_iter_items c.loop-entry.entry-iterator) (into_iter_len c.loop-entry.entry-iterator) c.in-None.ensures.steps.0 inv.counted in
    brings_all root first old here c.args.self.now c.open.new.self c.loop-entry.self c.args.at.level c.args.at.rule_type (opener_of c.args.at.opener) c.args.file.now c.in-Some.entries before now opens (rw (empty, whole) at (inv.going tells)) (inv.stays tells)
