use Rattle.std.proofs.Common.{◌≡◌, ◌∙◌, Err, refl, rules}
use Rattle.service_load.specs.declared.rule_type.RuleType.TheVariants.{Auth}
use Rattle.service_load.proofs.StackTreeFacts.{bounded_new, bounded_next, making_all, making_keeps, making_next, making_none, making_stops}
use Rattle.service_load.proofs.loader.Loader.trees.Goals as goal

pub loop-rule_type-init : goal.loop-rule_type-init
loop-rule_type-init g c =
    let first = (goal.Vault-dyn g c.args.vault.now).vault_holds c.args.vault.now.1 in
    record {
      tells = refl;
      making = λ tells. making_none c.args.root.now first c.args.self.now c.args.files.now.own c.args.files.now.other c.new-trees.result;
      bounded = bounded_new c.new-trees.result c.new-trees.ensures;
      faults = refl;
    }

pub loop-rule_type-preserved : goal.loop-rule_type-preserved
loop-rule_type-preserved g c =
    let first = (goal.Vault-dyn g c.args.vault.now).vault_holds c.args.vault.now.1 in
    let inv = c.loop-rule_type.invariant in
    let i = c.loop-rule_type.rule_type-index in
    let made = c.in_ok-nodes.ensures in
    record {
      tells = made.tells ∙ inv.tells;
      making = λ tells. making_next c.args.root.now first _ _ _ _ _ c.args.files.now.own c.args.files.now.other _ _ c.in_ok-nodes.nodes i Auth c.loop-rule_type-test.true (inv.making tells) (made.told (inv.tells ∙ tells)) c.put.ensures;
      bounded = bounded_next _ _ _ c.in_ok-nodes.nodes c.put.ensures inv.bounded made.bounded;
      faults = made.faults ∙ inv.faults;
    }

pub returns-in_err-nodes-clause-told : goal.returns-in_err-nodes-clause-told
returns-in_err-nodes-clause-told g c = λ tells.
    let first = (goal.Vault-dyn g c.args.vault.now).vault_holds c.args.vault.now.1 in
    let inv = c.loop-rule_type.invariant in
    let r = c.in_err-nodes.field-0.0 in
    let answered : c.from_residual.result ≡ Err r = search rules in
    rw answered (making_stops r c.args.root.now first _ _ _ _ _ c.args.files.now.own c.args.files.now.other _ c.loop-rule_type.rule_type-index Auth c.loop-rule_type-test.true (inv.making tells) (c.in_err-nodes.ensures.told (inv.tells ∙ tells)))

pub returns-in_err-nodes-clause-stays : goal.returns-in_err-nodes-clause-stays
returns-in_err-nodes-clause-stays g c = λ tells.
    let first = (goal.Vault-dyn g c.args.vault.now).vault_holds c.args.vault.now.1 in
    let inv = c.loop-rule_type.invariant in
    making_keeps c.in_err-nodes.field-0.0 c.args.root.now first _ _ _ _ _ _ _ _ _ _ (inv.making tells) (c.in_err-nodes.ensures.told (inv.tells ∙ tells))

pub returns-clause-told : goal.returns-clause-told
returns-clause-told g c = λ tells.
    let first = (goal.Vault-dyn g c.args.vault.now).vault_holds c.args.vault.now.1 in
    making_all c.args.root.now first _ _ _ c.args.files.now.own c.args.files.now.other _ c.loop-rule_type.rule_type-index c.loop-rule_type-test.false (c.loop-rule_type.invariant.making tells)

pub returns-clause-stays : goal.returns-clause-stays
returns-clause-stays g c = λ tells. (c.loop-rule_type.invariant.making tells).stays
