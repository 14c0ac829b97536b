use Rattle.std.proofs.Common.{◌≡◌, ◌+◌, ◌++◌, ◌∷◌, [], refl, length, length-append, map, Result, Ok, Err, inr, sym, ◌∙◌, ap, subst, arith, rules}
use Rattle.pam_base.specs.declared.code.Code.{Code}
use Rattle.pam_base.specs.declared.fault.NoMemory.{NoMemory}
use Rattle.handler_chain.specs.FlatLines.{rule_at}
use Rattle.pam_room.specs.Module.{player_of}
use Rattle.pam_room.specs.Plain.{plain_room, plain_transaction, plain_world}
use Rattle.pam_room.specs.State.{State, state_of}
use Rattle.handler_chain.specs.Pass.{AnswersAs}
use Rattle.dispatch_core.specs.AnswersSoFar.{AnswersView}
use Rattle.dispatch_core.specs.Failing.{visited_at}
use Rattle.dispatch_core.specs.Lines.{answers_by}
use Rattle.dispatch_core.proofs.LineRunFacts.{gives_off, gives_on}
use Rattle.dispatch_core.proofs.LineCodeFacts.{few_modules, line_answered, line_at_work, line_broken, line_visited, module_there}
use Rattle.dispatch_core.proofs.RealObjectFacts.{sound_none, sound_unrun}
use Rattle.dispatch_core.proofs.turn.next_answer.Goals as goal

pub serve_line-requires-clause-there : goal.serve_line-requires-clause-there
serve_line-requires-clause-there g c =
    module_there (λ b. (goal.Module-dyn g (b.vtable, b.value)).label b.value) c.args.mods.now c.args.chain.now.nodes c.args.chain.now.names c.args.i _ c.requires.within c.requires.names c.take_line-line.ensures.found

pub serve_line-requires-clause-few : goal.serve_line-requires-clause-few
serve_line-requires-clause-few g c =
    few_modules (λ b. (goal.Module-dyn g (b.vtable, b.value)).label b.value) c.args.mods.now c.args.chain.now.names _ c.requires.names c.take_line-line.ensures.few

pub returns-in-Some-clause-stays : goal.returns-in-Some-clause-stays
returns-in-Some-clause-stays g c = record {
  room_tells = refl;
  world_tells = refl;
  nap = refl;
  sound = sound_none _ _ _ _ (c.nothing_grows.ensures _ _ _ _ c.requires.ready.none_gone);
  ready = c.requires.ready;
}

pub returns-in_err-answer-clause-stays : goal.returns-in_err-answer-clause-stays
returns-in_err-answer-clause-stays g c =
    let stays = c.serve_line.ensures.stays in
    record {
      room_tells = stays.room_tells;
      world_tells = stays.world_tells;
      nap = stays.nap;
      sound = sound_unrun _ _ _ _ _ _ stays.stays stays.grows c.in_err-answer.ensures.not_visited;
      ready = stays.ready;
    }

pub returns-then-puts_off-clause-told : goal.returns-then-puts_off-clause-told
returns-then-puts_off-clause-told g c = λ told.
    let start : State = state_of (plain_room (λ b. (goal.Conv-dyn g (b.vtable, b.value)).conv_holds b.value) c.args.room.now) (plain_world (λ b. (goal.Vault-dyn g (b.vtable, b.value)).vault_holds b.value) (λ b. (goal.Clock-dyn g (b.vtable, b.value)).clock_holds b.value) (λ b. (goal.Nap-dyn g (b.vtable, b.value)).nap_holds b.value) c.args.world.now) in
    let later : State = state_of (plain_room (λ b. (goal.Conv-dyn g (b.vtable, b.value)).conv_holds b.value) c.serve_line.new.room) (plain_world (λ b. (goal.Vault-dyn g (b.vtable, b.value)).vault_holds b.value) (λ b. (goal.Clock-dyn g (b.vtable, b.value)).clock_holds b.value) (λ b. (goal.Nap-dyn g (b.vtable, b.value)).nap_holds b.value) c.serve_line.new.world) in
    gives_off (map (player_of (λ b. (goal.Module-dyn g (b.vtable, b.value)).label b.value) (λ b. (goal.Module-dyn g (b.vtable, b.value)).plays b.value) (λ b. (goal.Module-dyn g (b.vtable, b.value)).note b.value) (λ b. (goal.Module-dyn g (b.vtable, b.value)).breaks b.value)) c.args.mods.now) c.args.request c.args.chain.now.nodes c.args.i c.in_ok-answer.answer c.args.memory.now.answers.past c.next.new.self.past start later c.in_default.ensures.none (ap (λ (a : AnswersView). a.past) c.in_default.ensures.same ∙ c.in_default.ensures.none)
    (line_answered (λ b. (goal.Module-dyn g (b.vtable, b.value)).label b.value) (λ b. (goal.Module-dyn g (b.vtable, b.value)).plays b.value) (λ b. (goal.Module-dyn g (b.vtable, b.value)).note b.value) (λ b. (goal.Module-dyn g (b.vtable, b.value)).breaks b.value) c.args.mods.now c.args.request.func c.args.request.flags c.args.chain.now.nodes c.args.i c.args.chain.now.names c.take_line-line.result.module_number c.take_line-line.result.place c.take_line-line.result.path c.args-2.result.now start later c.in_ok-answer.answer c.requires.within c.requires.names c.take_line-line.ensures.found c.take_line-line.ensures.place c.take_line-line.ensures.path c.args-2.ensures (c.in_ok-answer.ensures.done.told told)) (c.puts_off.ensures.is c.if-puts_off.true)

pub returns-clause-told : goal.returns-clause-told
returns-clause-told g c = λ told.
    let start : State = state_of (plain_room (λ b. (goal.Conv-dyn g (b.vtable, b.value)).conv_holds b.value) c.args.room.now) (plain_world (λ b. (goal.Vault-dyn g (b.vtable, b.value)).vault_holds b.value) (λ b. (goal.Clock-dyn g (b.vtable, b.value)).clock_holds b.value) (λ b. (goal.Nap-dyn g (b.vtable, b.value)).nap_holds b.value) c.args.world.now) in
    let later : State = state_of (plain_room (λ b. (goal.Conv-dyn g (b.vtable, b.value)).conv_holds b.value) c.serve_line.new.room) (plain_world (λ b. (goal.Vault-dyn g (b.vtable, b.value)).vault_holds b.value) (λ b. (goal.Clock-dyn g (b.vtable, b.value)).clock_holds b.value) (λ b. (goal.Nap-dyn g (b.vtable, b.value)).nap_holds b.value) c.serve_line.new.world) in
    gives_on (map (player_of (λ b. (goal.Module-dyn g (b.vtable, b.value)).label b.value) (λ b. (goal.Module-dyn g (b.vtable, b.value)).plays b.value) (λ b. (goal.Module-dyn g (b.vtable, b.value)).note b.value) (λ b. (goal.Module-dyn g (b.vtable, b.value)).breaks b.value)) c.args.mods.now) c.args.request c.args.chain.now.nodes c.args.i c.in_ok-answer.answer c.args.memory.now.answers.past c.add.new.self.past start later c.in_default.ensures.none c.add.ensures.past
    (line_answered (λ b. (goal.Module-dyn g (b.vtable, b.value)).label b.value) (λ b. (goal.Module-dyn g (b.vtable, b.value)).plays b.value) (λ b. (goal.Module-dyn g (b.vtable, b.value)).note b.value) (λ b. (goal.Module-dyn g (b.vtable, b.value)).breaks b.value) c.args.mods.now c.args.request.func c.args.request.flags c.args.chain.now.nodes c.args.i c.args.chain.now.names c.take_line-line.result.module_number c.take_line-line.result.place c.take_line-line.result.path c.args-2.result.now start later c.in_ok-answer.answer c.requires.within c.requires.names c.take_line-line.ensures.found c.take_line-line.ensures.place c.take_line-line.ensures.path c.args-2.ensures (c.in_ok-answer.ensures.done.told told)) (sym c.puts_off.ensures.incomplete ∙ c.if-puts_off.false)

pub returns-then-puts_off-clause-line : goal.returns-then-puts_off-clause-line
returns-then-puts_off-clause-line g c =
    let start : State = state_of (plain_room (λ b. (goal.Conv-dyn g (b.vtable, b.value)).conv_holds b.value) c.args.room.now) (plain_world (λ b. (goal.Vault-dyn g (b.vtable, b.value)).vault_holds b.value) (λ b. (goal.Clock-dyn g (b.vtable, b.value)).clock_holds b.value) (λ b. (goal.Nap-dyn g (b.vtable, b.value)).nap_holds b.value) c.args.world.now) in
    let later : State = state_of (plain_room (λ b. (goal.Conv-dyn g (b.vtable, b.value)).conv_holds b.value) c.serve_line.new.room) (plain_world (λ b. (goal.Vault-dyn g (b.vtable, b.value)).vault_holds b.value) (λ b. (goal.Clock-dyn g (b.vtable, b.value)).clock_holds b.value) (λ b. (goal.Nap-dyn g (b.vtable, b.value)).nap_holds b.value) c.serve_line.new.world) in
    record {
      broken = λ told. tt;
      at_work = tt;
      taken = ap (λ (a : AnswersView). a.taken) c.in_default.ensures.same;
      none = λ ended. (ap (λ (a : AnswersView). a.past) c.in_default.ensures.same ∙ c.in_default.ensures.none);
      took = record {
        none_before = c.in_default.ensures.none;
        none_left = (ap (λ (a : AnswersView). a.past) c.in_default.ensures.same ∙ c.in_default.ensures.none);
        trail = subst (λ (k : Code). later.room.transaction.trail ≡ start.room.transaction.trail ++ visited_at c.args.chain.now.nodes c.args.i k ∷ []) (c.puts_off.ensures.is c.if-puts_off.true) (line_visited (let r : Result Code NoMemory = Ok c.in_ok-answer.answer in r) c.args.chain.now.nodes c.args.i c.take_line-line.result.place c.take_line-line.result.path _ _ c.take_line-line.ensures.place c.take_line-line.ensures.path c.in_ok-answer.ensures.visited);
        goes_on = refl;
        told = λ told. subst (λ (k : Code). AnswersAs (answers_by (map (player_of (λ b. (goal.Module-dyn g (b.vtable, b.value)).label b.value) (λ b. (goal.Module-dyn g (b.vtable, b.value)).plays b.value) (λ b. (goal.Module-dyn g (b.vtable, b.value)).note b.value) (λ b. (goal.Module-dyn g (b.vtable, b.value)).breaks b.value)) c.args.mods.now) c.args.request.func c.args.request.flags (rule_at c.args.chain.now.nodes c.args.i) (c.args.i + 1) start) k later) (c.puts_off.ensures.is c.if-puts_off.true) (line_answered (λ b. (goal.Module-dyn g (b.vtable, b.value)).label b.value) (λ b. (goal.Module-dyn g (b.vtable, b.value)).plays b.value) (λ b. (goal.Module-dyn g (b.vtable, b.value)).note b.value) (λ b. (goal.Module-dyn g (b.vtable, b.value)).breaks b.value) c.args.mods.now c.args.request.func c.args.request.flags c.args.chain.now.nodes c.args.i c.args.chain.now.names c.take_line-line.result.module_number c.take_line-line.result.place c.take_line-line.result.path c.args-2.result.now start later c.in_ok-answer.answer c.requires.within c.requires.names c.take_line-line.ensures.found c.take_line-line.ensures.place c.take_line-line.ensures.path c.args-2.ensures (c.in_ok-answer.ensures.done.told told));
      };
      answers = omega (arith, ap (λ (a : AnswersView). length a.taken + length a.past + a.room) c.in_default.ensures.same);
      paths = c.take_line-line.ensures.paths;
    }

pub returns-clause-line : goal.returns-clause-line
returns-clause-line g c =
    let start : State = state_of (plain_room (λ b. (goal.Conv-dyn g (b.vtable, b.value)).conv_holds b.value) c.args.room.now) (plain_world (λ b. (goal.Vault-dyn g (b.vtable, b.value)).vault_holds b.value) (λ b. (goal.Clock-dyn g (b.vtable, b.value)).clock_holds b.value) (λ b. (goal.Nap-dyn g (b.vtable, b.value)).nap_holds b.value) c.args.world.now) in
    let later : State = state_of (plain_room (λ b. (goal.Conv-dyn g (b.vtable, b.value)).conv_holds b.value) c.serve_line.new.room) (plain_world (λ b. (goal.Vault-dyn g (b.vtable, b.value)).vault_holds b.value) (λ b. (goal.Clock-dyn g (b.vtable, b.value)).clock_holds b.value) (λ b. (goal.Nap-dyn g (b.vtable, b.value)).nap_holds b.value) c.serve_line.new.world) in
    record {
      broken = λ told. tt;
      at_work = tt;
      taken = c.add.ensures.taken ∙ ap (λ (a : AnswersView). a.taken ++ c.in_ok-answer.answer ∷ []) c.in_default.ensures.same;
      none = λ ended. c.add.ensures.past;
      took = inr (record {
        none_before = c.in_default.ensures.none;
        none_left = c.add.ensures.past;
        trail = (line_visited (let r : Result Code NoMemory = Ok c.in_ok-answer.answer in r) c.args.chain.now.nodes c.args.i c.take_line-line.result.place c.take_line-line.result.path _ _ c.take_line-line.ensures.place c.take_line-line.ensures.path c.in_ok-answer.ensures.visited);
        goes_on = sym c.puts_off.ensures.incomplete ∙ c.if-puts_off.false;
        told = λ told. (line_answered (λ b. (goal.Module-dyn g (b.vtable, b.value)).label b.value) (λ b. (goal.Module-dyn g (b.vtable, b.value)).plays b.value) (λ b. (goal.Module-dyn g (b.vtable, b.value)).note b.value) (λ b. (goal.Module-dyn g (b.vtable, b.value)).breaks b.value) c.args.mods.now c.args.request.func c.args.request.flags c.args.chain.now.nodes c.args.i c.args.chain.now.names c.take_line-line.result.module_number c.take_line-line.result.place c.take_line-line.result.path c.args-2.result.now start later c.in_ok-answer.answer c.requires.within c.requires.names c.take_line-line.ensures.found c.take_line-line.ensures.place c.take_line-line.ensures.path c.args-2.ensures (c.in_ok-answer.ensures.done.told told));
      });
      answers = omega (arith, ap length c.add.ensures.taken, length-append c.next.new.self.taken (c.in_ok-answer.answer ∷ []), c.add.ensures.room, ap (λ (a : AnswersView). length a.taken + length a.past + a.room) c.in_default.ensures.same, ap length c.in_default.ensures.none, ap length (ap (λ (a : AnswersView). a.past) c.in_default.ensures.same ∙ c.in_default.ensures.none));
      paths = c.take_line-line.ensures.paths;
    }

pub returns-in_err-answer-clause-line : goal.returns-in_err-answer-clause-line
returns-in_err-answer-clause-line g c =
    let start : State = state_of (plain_room (λ b. (goal.Conv-dyn g (b.vtable, b.value)).conv_holds b.value) c.args.room.now) (plain_world (λ b. (goal.Vault-dyn g (b.vtable, b.value)).vault_holds b.value) (λ b. (goal.Clock-dyn g (b.vtable, b.value)).clock_holds b.value) (λ b. (goal.Nap-dyn g (b.vtable, b.value)).nap_holds b.value) c.args.world.now) in
    let later : State = state_of (plain_room (λ b. (goal.Conv-dyn g (b.vtable, b.value)).conv_holds b.value) c.serve_line.new.room) (plain_world (λ b. (goal.Vault-dyn g (b.vtable, b.value)).vault_holds b.value) (λ b. (goal.Clock-dyn g (b.vtable, b.value)).clock_holds b.value) (λ b. (goal.Nap-dyn g (b.vtable, b.value)).nap_holds b.value) c.serve_line.new.world) in
    let failed : c.from_residual.result ≡ Err c.in_err-answer.field-0.0 = search rules in
    rw failed (record {
      broken = λ told.
          line_broken (λ b. (goal.Module-dyn g (b.vtable, b.value)).label b.value) (λ b. (goal.Module-dyn g (b.vtable, b.value)).plays b.value) (λ b. (goal.Module-dyn g (b.vtable, b.value)).note b.value) (λ b. (goal.Module-dyn g (b.vtable, b.value)).breaks b.value) c.args.mods.now c.args.request.func c.args.request.flags c.args.chain.now.nodes c.args.i (Err c.in_err-answer.field-0.0) c.args.chain.now.names c.take_line-line.result.module_number c.args-2.result.now start later
          c.requires.within c.requires.names c.take_line-line.ensures.found c.args-2.ensures (c.in_err-answer.ensures.done.broken told);
      at_work = (
        c.in_default.ensures.none,
        line_at_work (λ b. (goal.Module-dyn g (b.vtable, b.value)).label b.value) (λ b. (goal.Module-dyn g (b.vtable, b.value)).plays b.value) (λ b. (goal.Module-dyn g (b.vtable, b.value)).note b.value) (λ b. (goal.Module-dyn g (b.vtable, b.value)).breaks b.value) c.args.mods.now c.args.chain.now.nodes c.args.chain.now.names c.args.i c.take_line-line.result.module_number (Err c.in_err-answer.field-0.0) (plain_transaction c.args.room.now.transaction) (plain_transaction c.serve_line.new.room.transaction)
            c.requires.within c.requires.names c.take_line-line.ensures.found c.in_err-answer.ensures.at_work c.in_err-answer.ensures.not_visited,
      );
      taken = tt;
      none = tt;
      took = tt;
      answers = tt;
      paths = c.take_line-line.ensures.paths;
    })
