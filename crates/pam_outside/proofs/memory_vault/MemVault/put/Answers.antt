use Rattle.std.proofs.Common.{sym, refl, ap, arith}
use Rattle.pam_outside.specs.Memory.{VaultMemory}
use Rattle.pam_outside.proofs.ReplacedFileFacts.{is_within, put_over, put_after, put_found, put_others}
use Rattle.pam_outside.proofs.memory_vault.MemVault.put.Goals as goal

pub index_mut-requires : goal.index_mut-requires
index_mut-requires c =
    let at = rw (c.in-Some.is, c.deref.ensures.value) at c.place_of.ensures in
    omega (arith, is_within c.args.path.now c.args.bytes.now c.self.inside.files.items c.in-Some.place (sym at), c.self.inside.files.ok.0)

pub returns-in-Some-clause-ok : goal.returns-in-Some-clause-ok
returns-in-Some-clause-ok c =
    let at = rw (c.in-Some.is, c.deref.ensures.value) at c.place_of.ensures in
    rw (← c.self.view_is, c.in_ok-from_bytes.ensures, c.in_ok-from_bytes-2.ensures, put_over c.args.path.now c.args.bytes.now c.self.inside.files.items c.in-Some.place (sym at)) refl

pub returns-in_ok-push-in-None-clause-ok : goal.returns-in_ok-push-in-None-clause-ok
returns-in_ok-push-in-None-clause-ok c =
    let at = rw (c.in-None.is, c.deref.ensures.value) at c.place_of.ensures in
    rw (← c.self.view_is, c.in_ok-push-in-None.ensures.items, c.in_ok-from_bytes.ensures, c.in_ok-from_bytes-2.ensures, put_after c.args.path.now c.args.bytes.now c.self.inside.files.items (sym at)) refl

pub returns-in-Some-clause-found : goal.returns-in-Some-clause-found
returns-in-Some-clause-found c =
    let stored = ap (λ (v : VaultMemory). v.files) (returns-in-Some-clause-ok c) in
    rw stored (put_found c.args.path.now c.args.bytes.now c.args.self.now.files)

pub returns-in-Some-clause-others : goal.returns-in-Some-clause-others
returns-in-Some-clause-others c =
    let stored = ap (λ (v : VaultMemory). v.files) (returns-in-Some-clause-ok c) in
    λ other differs. rw stored (put_others c.args.path.now c.args.bytes.now other differs c.args.self.now.files)

pub returns-in_ok-push-in-None-clause-found : goal.returns-in_ok-push-in-None-clause-found
returns-in_ok-push-in-None-clause-found c =
    let stored = ap (λ (v : VaultMemory). v.files) (returns-in_ok-push-in-None-clause-ok c) in
    rw stored (put_found c.args.path.now c.args.bytes.now c.args.self.now.files)

pub returns-in_ok-push-in-None-clause-others : goal.returns-in_ok-push-in-None-clause-others
returns-in_ok-push-in-None-clause-others c =
    let stored = ap (λ (v : VaultMemory). v.files) (returns-in_ok-push-in-None-clause-ok c) in
    λ other differs. rw stored (put_others c.args.path.now c.args.bytes.now other differs c.args.self.now.files)
