use Rattle.std.proofs.Common.{map, refl, ◌∙◌, ap}
use Rattle.dispatch_core.specs.AnswersSoFar.{past_of}
use Rattle.dispatch_core.specs.handler_chain.specs.Chain.{ChainView}
use Rattle.dispatch_core.specs.pam_room.specs.Module.{player_of}
use Rattle.dispatch_core.specs.pam_room.specs.Plain.{plain_room}
use Rattle.pam_handle.specs.Plain.{plain_handle}
use Rattle.pam_handle.proofs.CachedPassFacts.{names_of_players, pass_by_trail, pass_gives, pass_ready, pass_sound, pass_stopped, pass_told}
use Rattle.pam_handle.proofs.StackTypeFacts.{names_at, others_stay, stack_of_call}
use Rattle.pam_handle.proofs.handle.Handle.pass.Goals as goal

pub dispatch-requires-clause-names : goal.dispatch-requires-clause-names
dispatch-requires-clause-names g c =
    rw c.deref.ensures.value (ap (λ (k : ChainView). k.names) c.of_mut-chain.ensures.value ∙ names_at c.args.self.now.chains c.stack_type.result ∙ c.requires.ready.0 ∙ names_of_players _ _ _ _ c.args.gear.now.mods.items)

pub returns-clause-gives : goal.returns-clause-gives
returns-clause-gives g c =
    let nodes = c.of_mut-chain.result.now.nodes in
    let players = ap (map (player_of (λ b. (goal.Module-dyn g (b.vtable, b.value)).label b.value) (λ b. (goal.Module-dyn g (b.vtable, b.value)).plays b.value) (λ b. (goal.Module-dyn g (b.vtable, b.value)).note b.value) (λ b. (goal.Module-dyn g (b.vtable, b.value)).breaks b.value))) c.deref.ensures.value in
    pass_gives c.args.request c.args.kept.now c.dispatch.new.kept (past_of c.args.paused.now) c.dispatch.new.paused c.dispatch.result _ nodes (stack_of_call c.args.self.now.chains c.args.request.func c.stack_type.result _ c.stack_type.ensures c.of_mut-chain.ensures.value)
    (λ told. pass_told c.dispatch.result _ _ c.args.request.func c.args.request.flags c.args.request.kind c.args.kept.now c.dispatch.new.kept nodes (past_of c.args.paused.now) _ c.dispatch.new.paused _ players (c.dispatch.ensures.done.told told))
    (pass_by_trail c.dispatch.result c.args.request.kind c.args.kept.now c.dispatch.new.kept nodes (past_of c.args.paused.now) _ _ c.dispatch.new.paused c.dispatch.ensures.done.by_trail)
    c.dispatch.ensures.put_off c.dispatch.ensures.kept c.dispatch.ensures.paused
    (pass_stopped c.dispatch.result _ _ c.args.request.func c.args.request.flags c.args.request.kind c.args.kept.now nodes (past_of c.args.paused.now) _ _ _ _ _ players (λ u. (u.room, u.world)) c.dispatch.ensures.stopped)

pub returns-clause-stays : goal.returns-clause-stays
returns-clause-stays g c = record {
  room_tells = c.dispatch.ensures.stays.room_tells;
  world_tells = c.dispatch.ensures.stays.world_tells;
  nap = c.dispatch.ensures.stays.nap;
  sound = pass_sound (λ b. (goal.Module-dyn g (b.vtable, b.value)).label b.value) (λ b. (goal.Module-dyn g (b.vtable, b.value)).plays b.value) (λ b. (goal.Module-dyn g (b.vtable, b.value)).note b.value) (λ b. (goal.Module-dyn g (b.vtable, b.value)).breaks b.value) _ c.args.gear.now.mods.items c.deref.ensures.value _ _ _ _ c.dispatch.ensures.stays.sound;
  ready = pass_ready (λ b. (goal.Module-dyn g (b.vtable, b.value)).label b.value) (λ b. (goal.Module-dyn g (b.vtable, b.value)).plays b.value) (λ b. (goal.Module-dyn g (b.vtable, b.value)).note b.value) (λ b. (goal.Module-dyn g (b.vtable, b.value)).breaks b.value) _ c.args.gear.now.mods.items c.deref.ensures.value _ _ c.dispatch.ensures.stays.ready;
}

pub returns-clause-others : goal.returns-clause-others
returns-clause-others g c =
    let room = plain_room (λ b. (goal.Conv-dyn g (b.vtable, b.value)).conv_holds b.value) in
    others_stay (plain_handle room c.args.self.now) (room c.dispatch.new.room) c.args.self.now.chains.by_type c.stack_type.result _ c.dispatch.new.chain c.of_mut-chain.ensures.value c.dispatch.ensures.flat.nodes c.dispatch.ensures.flat.names refl refl
