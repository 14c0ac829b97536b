use Rattle.std.proofs.Common.{◌≡◌, Ok, Err, refl, sym, ◌∙◌, rules}
use Rattle.control_words.specs.Stack.{stack_of}
use Rattle.service_load.proofs.StackTreeFacts.{bounded_one, bounded_two, other_since, makes_own, makes_other, stop_own, stop_other}
use Rattle.service_load.proofs.loader.Loader.tree.Goals as goal

pub returns-in_err-there-clause-told : goal.returns-in_err-there-clause-told
returns-in_err-there-clause-told g c = λ tells.
    let first = (goal.Vault-dyn g c.args.vault.now).vault_holds c.args.vault.now.1 in
    let r = c.in_err-there.field-0.0 in
    let answered : c.from_residual.result ≡ Err r = search rules in
    let brings = rw c.new-nodes.ensures at (c.in_err-there.ensures.told tells) in
    rw answered (stop_own c.args.root.now first _ _ _ _ r _ _ brings.looks brings.stays)

pub returns-then-not-is_empty-clause-told : goal.returns-then-not-is_empty-clause-told
returns-then-not-is_empty-clause-told g c = λ tells.
    let first = (goal.Vault-dyn g c.args.vault.now).vault_holds c.args.vault.now.1 in
    let brings = rw c.new-nodes.ensures at (c.in_ok-there.ensures.told tells) in
    makes_own c.args.root.now first _ _ _ _ c.add_file.new.nodes _ _ brings.looks brings.nodes (sym c.is_empty.ensures ∙ c.if-not-is_empty.true) brings.stays

pub returns-then-not-is_empty-clause-bounded : goal.returns-then-not-is_empty-clause-bounded
returns-then-not-is_empty-clause-bounded g c = bounded_one (record c.args.self.now { lines = 0 }) c.add_file.new.self (stack_of c.add_file.new.nodes.vec.items) refl (rw c.new-nodes.ensures at c.in_ok-there.ensures.grows)

pub returns-in_err-add_file-clause-told : goal.returns-in_err-add_file-clause-told
returns-in_err-add_file-clause-told g c = λ tells.
    let first = (goal.Vault-dyn g c.args.vault.now).vault_holds c.args.vault.now.1 in
    let mid = (goal.Vault-dyn g (c.args.vault.now.0, c.add_file.new.vault)).vault_holds c.add_file.new.vault in
    let r = c.in_err-add_file.field-0.0 in
    let answered : c.from_residual-in_err-add_file.result ≡ Err r = search rules in
    let brings = rw c.new-nodes.ensures at (c.in_ok-there.ensures.told tells) in
    let told = rw c.opener_of_other-opener.ensures at (c.in_err-add_file.ensures.told (c.in_ok-there.ensures.tells ∙ tells)) in
    let s = other_since (Err r) c.args.root.now first mid _ _ _ c.args.files.now.own c.args.files.now.other c.args.rule_type c.in_ok-there.there _ _ brings.stays told in
    rw answered (stop_other c.args.root.now first _ c.args.files.now.own _ _ mid _ _ _ _ c.in_ok-there.there brings.looks brings.nodes (sym c.is_empty.ensures ∙ c.if-not-is_empty.false) (c.in_ok-there.ensures.there tells) r s.looks s.stays)

pub returns-clause-told : goal.returns-clause-told
returns-clause-told g c = λ tells.
    let first = (goal.Vault-dyn g c.args.vault.now).vault_holds c.args.vault.now.1 in
    let mid = (goal.Vault-dyn g (c.args.vault.now.0, c.add_file.new.vault)).vault_holds c.add_file.new.vault in
    let brings = rw c.new-nodes.ensures at (c.in_ok-there.ensures.told tells) in
    let told = rw c.opener_of_other-opener.ensures at (c.in_ok-add_file.ensures.told (c.in_ok-there.ensures.tells ∙ tells)) in
    let s = other_since (Ok c.in_ok-add_file.field-0) c.args.root.now first mid _ _ _ c.args.files.now.own c.args.files.now.other c.args.rule_type c.in_ok-there.there _ _ brings.stays told in
    makes_other c.args.root.now first _ c.args.files.now.own _ _ mid _ _ _ _ c.in_ok-there.there brings.looks brings.nodes (sym c.is_empty.ensures ∙ c.if-not-is_empty.false) (c.in_ok-there.ensures.there tells) c.add_file-2.new.nodes s.looks s.nodes s.stays

pub returns-clause-bounded : goal.returns-clause-bounded
returns-clause-bounded g c =
    bounded_two (record c.args.self.now { lines = 0 }) c.add_file.new.self c.add_file-2.new.self (stack_of c.add_file.new.nodes.vec.items) (stack_of c.add_file-2.new.nodes.vec.items) refl
    (rw c.new-nodes.ensures at c.in_ok-there.ensures.grows) c.in_ok-add_file.ensures.grows
