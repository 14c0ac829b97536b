use Rattle.std.proofs.Common.{◌+◌, ◌∙◌, [], drop_of_length-le, subst, ℕ, List, Option, Ok}
use Rattle.explain_origins.specs.Placed.{Placed}
use Rattle.explain_origins.specs.declared.files.Inclusion.{Inclusion}
use Rattle.explain_origins.specs.Reading.{Takes, placed_at}
use Rattle.pam_base.specs.declared.fault.NoMemory.{NoMemory}
use Rattle.explain_origins.proofs.FileRuleFacts.{adds_nothing, going_all, going_in, going_taken, placed_is, too_deep}
use Rattle.explain_origins.proofs.Since.{adds_since, only_more}
use Rattle.service_load.specs.declared.rule_file.RuleFile.{RuleFile}
use Rattle.service_load.specs.Files.{is_in_directory, own_rules, plain_file}
use Rattle.service_load.specs.Loading.{texts_of}
use Rattle.explain_origins.specs.contracts.files.add_file.{dyn-1-ghosts}
use Rattle.explain_origins.specs.contracts.files.add_file.dyn-1 as borrowed
use Rattle.explain_origins.proofs.files.+add_file.Goals as goal

pub returns-then-level-gt-MAX_LEVEL-clause-told : goal.returns-then-level-gt-MAX_LEVEL-clause-told
returns-then-level-gt-MAX_LEVEL-clause-told g t c = λ tells.
    adds_nothing _ _ (too_deep _ c.args.level c.args.rule_type c.args.file.now c.if-level-gt-MAX_LEVEL.true c.requires)

pub returns-in_default-clause-told : goal.returns-in_default-clause-told
returns-in_default-clause-told g t c = λ tells.
    adds_nothing _ _ (placed_is _ c.args.level c.args.rule_type c.args.file.now [] c.if-level-gt-MAX_LEVEL.false (rw c.in_default.is at (c.in_ok-rules.ensures.told tells)))

pub loop-rule-preserved-in_default-2 : goal.loop-rule-preserved-in_default-2
loop-rule-preserved-in_default-2 g t c =
    let first = (borrowed.members (dyn-1-ghosts g.dyn-1) c.args.vault.now).vault_holds c.args.vault.now.1 in
    let at : RuleFile → Placed = λ file. placed_at (texts_of c.args.root.now first) (c.args.level + 1) c.args.rule_type file in
    let inv = c.loop-rule.invariant in
    let taken = subst (λ (left : Option Inclusion). Takes {E = NoMemory} (Ok left) c.in_ok-step.step c.args.file.now.name c.loop-rule.origins c.take_step.new.origins c.loop-rule.any c.take_step.new.any)
    c.in_default-2.is c.in_ok-inclusion.ensures in
    record {
      tells = inv.tells;
      going = λ tells. going_taken at c.args.rule_type c.args.file.now.name (is_in_directory c.args.file.now) c.args.file.now.service _ _ c.rule-item.result _ _ _ _ _ _
          c.loop-rule-test.true c.rule-item.is c.in_ok-step.ensures taken (inv.going tells);
      stays = inv.stays;
      faults = inv.faults;
    }

pub loop-rule-preserved : goal.loop-rule-preserved
loop-rule-preserved g t c =
    let first = (borrowed.members (dyn-1-ghosts g.dyn-1) c.args.vault.now).vault_holds c.args.vault.now.1 in
    let here = (borrowed.members (dyn-1-ghosts g.dyn-1) c.loop-rule.vault.now).vault_holds c.loop-rule.vault.now.1 in
    let new = (borrowed.members (dyn-1-ghosts g.dyn-1) (c.loop-rule.vault.now.0, c.add_file.new.vault)).vault_holds c.add_file.new.vault in
    let root = c.args.root.now in
    let at : RuleFile → Placed = λ file. placed_at (texts_of root first) (c.args.level + 1) c.args.rule_type file in
    let inv = c.loop-rule.invariant in
    let taken = subst (λ (left : Option Inclusion). Takes {E = NoMemory} (Ok left) c.in_ok-step.step c.args.file.now.name c.loop-rule.origins c.take_step.new.origins c.loop-rule.any c.take_step.new.any)
    c.in-Some-2.is c.in_ok-inclusion.ensures in
    record {
      tells = c.in_ok-found.ensures.tells ∙ inv.tells;
      going = λ tells. going_in at c.args.rule_type c.args.file.now.name (is_in_directory c.args.file.now) c.args.file.now.service _ _ c.rule-item.result _ _ _ _ _ _ _ _ _ c.in-Some-2.inclusion
          c.loop-rule-test.true c.rule-item.is c.in_ok-step.ensures taken
          (adds_since _ _ _ root first here (c.args.level + 1) c.args.rule_type c.in-Some-2.inclusion.file (inv.stays tells) (c.in_ok-found.ensures.told (inv.tells ∙ tells)))
          c.is_any-any.ensures (inv.going tells);
      stays = λ tells. only_more first here new (inv.stays tells) (c.in_ok-found.ensures.stays (inv.tells ∙ tells));
      faults = c.in_ok-found.ensures.faults ∙ inv.faults;
    }

pub returns-clause-told : goal.returns-clause-told
returns-clause-told g t c = λ tells.
    let first = (borrowed.members (dyn-1-ghosts g.dyn-1) c.args.vault.now).vault_holds c.args.vault.now.1 in
    let texts = texts_of c.args.root.now first in
    let deeper : List ℕ → Placed = λ name. placed_at texts (c.args.level + 1) c.args.rule_type (plain_file name) in
    let meant = rw c.in-Some.is at (c.in_ok-rules.ensures.told tells) in
    going_all deeper c.args.rule_type c.args.file.now.name (is_in_directory c.args.file.now) c.args.file.now.service _ _ _ _ _ _
    (c.loop-rule.invariant.going tells) (drop_of_length-le _ c.loop-rule-test.false)
    (rw c.items-rule-items.ensures (placed_is texts c.args.level c.args.rule_type c.args.file.now (own_rules c.args.file.now.service c.in-Some.rules) c.if-level-gt-MAX_LEVEL.false meant))
