use Rattle.std.proofs.Common.{◌≡◌, Ok, Err, refl, sym, ◌∙◌, ap, rules}
use Rattle.frozen_chain.specs.Kept.{Answers}
use Rattle.dispatch_core.specs.pam_room.specs.Plain.{plain_room, plain_world}
use Rattle.pam_handle.specs.Handle.{PlainHandle, in_room}
use Rattle.pam_handle.specs.Pass.{kept_answers}
use Rattle.pam_handle.specs.Passes.{cached_of}
use Rattle.pam_handle.specs.Plain.{plain_handle}
use Rattle.pam_handle.proofs.PassRecordFacts.{give_none, give_once, give_second, give_twice, kept_of, swapped}
use Rattle.pam_handle.proofs.handle.Handle.passes.Goals as goal

pub returns-then-is_second-clause-give : goal.returns-then-is_second-clause-give
returns-then-is_second-clause-give g c =
    give_second c.pass.result c.args.func c.args.flags c.args.first.now c.pass.new.kept _ c.pass.new.paused _ _ _ _ _ _ c.second_request.result
    (sym c.is_second.ensures ∙ c.if-is_second.true) c.second_request.ensures c.pass.ensures.others c.pass.ensures.gives

pub returns-then-not-is_followed-clause-give : goal.returns-then-not-is_followed-clause-give
returns-then-not-is_followed-clause-give g c =
    let room = plain_room (λ b. (goal.Conv-dyn g (b.vtable, b.value)).conv_holds b.value) in
    let h : PlainHandle = plain_handle room c.args.self.now in
    let mid : PlainHandle = plain_handle room c.pass-result.new.self in
    give_once c.args.func c.args.flags c.args.first.now _ c.pass-result.new.paused _ _ _ _ _ _ _ _ _ _ c.first_request-request.result c.swap_cached-cached.result c.pass-result.new.kept
    (sym c.is_second.ensures ∙ c.if-is_second.false)
    (ap kept_answers (c.swap_cached-cached.ensures.cached ∙ ap (λ (n : Answers). cached_of c.args.func c.args.self.now.authenticated c.args.self.now.opened n) c.none.ensures) ∙ kept_of c.args.func c.args.self.now.authenticated c.args.self.now.opened)
    c.first_request-request.ensures c.in_ok-code.code _ (sym c.is_followed.ensures ∙ c.if-not-is_followed.true) (ap kept_answers c.drop_all.ensures)
    (ap (λ k. plain_handle room k) c.swap_cached-own.ensures.new
    ∙ swapped c.args.func h mid mid.room c.args.self.now.authenticated c.args.self.now.opened c.pass-result.new.self.authenticated c.pass-result.new.self.opened c.none.result c.pass-result.new.kept refl refl refl refl
    (c.pass-result.ensures.others ∙ ap (λ k. in_room mid.room (plain_handle room k)) c.swap_cached-cached.ensures.new))
    refl
    (let is : c.pass-result.result ≡ Ok c.in_ok-code.code = search rules in
    let one = rw is at c.pass-result.ensures.gives in
    rw c.swap_cached-cached.ensures.new at one)

pub returns-in_err-code-clause-give : goal.returns-in_err-code-clause-give
returns-in_err-code-clause-give g c =
    let answered : c.from_residual.result ≡ Err c.in_err-code.field-0.0 = search rules in
    let room = plain_room (λ b. (goal.Conv-dyn g (b.vtable, b.value)).conv_holds b.value) in
    let h : PlainHandle = plain_handle room c.args.self.now in
    let mid : PlainHandle = plain_handle room c.pass-result.new.self in
    rw answered
    (give_none c.args.func c.args.flags c.args.first.now _ c.pass-result.new.paused _ _ _ _ _ _ _ _ _ _ c.first_request-request.result c.swap_cached-cached.result c.pass-result.new.kept
    (sym c.is_second.ensures ∙ c.if-is_second.false)
    (ap kept_answers (c.swap_cached-cached.ensures.cached ∙ ap (λ (n : Answers). cached_of c.args.func c.args.self.now.authenticated c.args.self.now.opened n) c.none.ensures) ∙ kept_of c.args.func c.args.self.now.authenticated c.args.self.now.opened)
    c.first_request-request.ensures c.in_err-code.field-0.0 _
    (ap (λ k. plain_handle room k) c.swap_cached-own.ensures.new
    ∙ swapped c.args.func h mid mid.room c.args.self.now.authenticated c.args.self.now.opened c.pass-result.new.self.authenticated c.pass-result.new.self.opened c.none.result c.pass-result.new.kept refl refl refl refl
    (c.pass-result.ensures.others ∙ ap (λ k. in_room mid.room (plain_handle room k)) c.swap_cached-cached.ensures.new))
    refl
    (let is : c.pass-result.result ≡ Err c.in_err-code.field-0.0 = search rules in
    let one = rw is at c.pass-result.ensures.gives in
    rw c.swap_cached-cached.ensures.new at one))

pub returns-clause-stays : goal.returns-clause-stays
returns-clause-stays g c = record {
  room_tells = search rules;
  world_tells = c.pass-2.ensures.stays.world_tells ∙ c.pass-result.ensures.stays.world_tells;
  nap = c.pass-2.ensures.stays.nap ∙ c.pass-result.ensures.stays.nap;
  sound = c.soundness_is_transitive.ensures _ _ _ _ _ _ _ _ (rw c.swap_cached-cached.ensures.new at c.pass-result.ensures.stays.sound) (rw c.swap_cached-own.ensures.new at c.pass-2.ensures.stays.sound);
  ready = c.pass-2.ensures.stays.ready;
}

pub returns-clause-give : goal.returns-clause-give
returns-clause-give g c =
    let room = plain_room (λ b. (goal.Conv-dyn g (b.vtable, b.value)).conv_holds b.value) in
    let world = plain_world (λ b. (goal.Vault-dyn g (b.vtable, b.value)).vault_holds b.value) (λ b. (goal.Clock-dyn g (b.vtable, b.value)).clock_holds b.value) (λ b. (goal.Nap-dyn g (b.vtable, b.value)).nap_holds b.value) in
    let h : PlainHandle = plain_handle room c.args.self.now in
    let mid : PlainHandle = plain_handle room c.pass-result.new.self in
    let end : PlainHandle = plain_handle room c.pass-2.new.self in
    let kept = c.pass-result.new.kept in
    let follows = sym c.is_followed.ensures ∙ c.if-not-is_followed.false in
    let is : c.pass-result.result ≡ Ok c.in_ok-code.code = search rules in
    let one = rw is at c.pass-result.ensures.gives in
    let middle = ap (λ k. plain_handle room k) c.swap_cached-own.ensures.new
    ∙ swapped c.args.func h mid mid.room c.args.self.now.authenticated c.args.self.now.opened c.pass-result.new.self.authenticated c.pass-result.new.self.opened c.none.result kept refl refl refl refl
    (c.pass-result.ensures.others ∙ ap (λ k. in_room mid.room (plain_handle room k)) c.swap_cached-cached.ensures.new) in
    give_twice c.pass-2.result c.args.func c.args.flags c.args.first.now c.swap_cached-cached.result kept c.swap_cached-own.result c.pass-2.new.kept _ c.pass-result.new.paused c.pass-2.new.paused end.room _ _ _ _ _ _ _
    _ _ _ _ _ _ _ _ _ c.first_request-request.result c.second_request-2.result c.pass-result.new.self.authenticated c.pass-result.new.self.opened c.in_ok-code.code
    (sym c.is_second.ensures ∙ c.if-is_second.false) follows
    (ap kept_answers (c.swap_cached-cached.ensures.cached ∙ ap (λ (n : Answers). cached_of c.args.func c.args.self.now.authenticated c.args.self.now.opened n) c.none.ensures) ∙ kept_of c.args.func c.args.self.now.authenticated c.args.self.now.opened)
    c.first_request-request.ensures c.swap_cached-own.ensures.cached c.second_request-2.ensures
    (c.pass-2.ensures.others ∙ ap (λ (k : PlainHandle). in_room end.room k) middle)
    (rw c.swap_cached-cached.ensures.new at c.pass-result.ensures.stays.sound)
    (λ same. ap world same) refl
    (rw c.swap_cached-cached.ensures.new at c.pass-result.ensures.stays.room_tells) c.pass-result.ensures.stays.world_tells
    (ap (λ (k : PlainHandle). k.stacks) (c.pass-result.ensures.others ∙ ap (λ k. in_room mid.room (plain_handle room k)) c.swap_cached-cached.ensures.new))
    (rw c.swap_cached-cached.ensures.new at one)
    (rw c.swap_cached-own.ensures.new at c.pass-2.ensures.gives)
