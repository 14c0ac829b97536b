use Rattle.std.proofs.Common.{◌≡◌, ◌≤◌, ◌<◌, ◌+◌, ◌++◌, ◌∷◌, [], List, Option, length, length-append, map, is_some, Err, refl, sym, ◌∙◌, ap, subst, arith, rules}
use Rattle.std.proofs.lemmas.List.{length-map}
use Rattle.pam_base.specs.declared.code.Code.{Code}
use Rattle.control_words.specs.Stack.{Stack, lines_in}
use Rattle.frozen_chain.specs.Kept.{lines_kept}
use Rattle.pam_room.specs.State.{State, state_of}
use Rattle.pam_room.specs.Module.{player_of}
use Rattle.pam_room.specs.Plain.{plain_room, plain_world}
use Rattle.handler_chain.specs.Pass.{Answering, Visit, decides, pass_state, serving, visit}
use Rattle.handler_chain.specs.Walk.{halted}
use Rattle.dispatch_core.specs.Index.{GoesOn, walk_on}
use Rattle.dispatch_core.specs.Lines.{answers_by}
use Rattle.dispatch_core.specs.Passes.{answer_in, by_place, taken_with}
use Rattle.dispatch_core.specs.Paths.{HasPaths}
use Rattle.dispatch_core.proofs.IndexTurnFacts.{begun, ended_at_last}
use Rattle.dispatch_core.proofs.LinePathFacts.{paths_ahead}
use Rattle.dispatch_core.proofs.Progress.{nothing_yet, one_more, lines_kept-more, held-more, lines_kept-empty}
use Rattle.dispatch_core.proofs.LastTurnFacts.{walks_off, walks_to, turn_more}
use Rattle.dispatch_core.proofs.RealObjectFacts.{sound_none}
use Rattle.dispatch_core.proofs.LineTurnFacts.{put_off, taken}
use Rattle.dispatch_core.proofs.PassProgressFacts.{far_first, far_later, stops_later}
use Rattle.dispatch_core.proofs.StillModelledFacts.{both_tell}
use Rattle.dispatch_core.proofs.PassTraceFacts.{traced_ended, traced_first, traced_later, traced_put_off}
use Rattle.dispatch_core.proofs.pass.walk.Goals as goal

pub loop-walker-init : goal.loop-walker-init
loop-walker-init g c =
    let answers : Answering State = answers_by (map (player_of (λ b. (goal.Module-dyn g (b.vtable, b.value)).label b.value) (λ b. (goal.Module-dyn g (b.vtable, b.value)).plays b.value) (λ b. (goal.Module-dyn g (b.vtable, b.value)).note b.value) (λ b. (goal.Module-dyn g (b.vtable, b.value)).breaks b.value)) c.args.mods.now) c.args.request.func c.args.request.flags in (
      [],
      record {
        goes = λ told. begun c.args.request.kind (serving c.args.request.kind (by_place c.args.follows.now) answers) c.args.chain.now.nodes c.new-walker.result _ c.new-walker.ensures.at c.new-walker.ensures.opinion c.new-walker.ensures.entries;
        far = far_first _ _ _ _ _ _ _ _ _ c.new-walker.result c.new-walker.ensures.at c.new-walker.ensures.opinion c.new-walker.ensures.entries;
        traced = traced_first _ _ _ _ _ c.new-walker.result c.new-walker.ensures.at c.new-walker.ensures.opinion c.new-walker.ensures.entries;
        progress = nothing_yet c.args.keeps.now c.args.memory.now.answers.taken (lines_in c.args.chain.now.nodes) c.new-walker.result.at c.requires.cells c.requires.taken;
        few = omega (arith, ap length c.requires.taken);
        answers_fit = omega (arith, c.requires.answers);
        spare = omega (arith, c.requires.spare);
        paths = paths_ahead _ _ 0 _ (omega arith) c.requires.paths;
        cells = λ there. ap lines_kept (c.requires.cells there) ∙ lines_kept-empty (lines_in c.args.chain.now.nodes);
        held = refl;
        room_tells = refl;
        world_tells = refl;
        nap = refl;
        nodes = refl;
        names = refl;
        looks = omega arith;
        sound = sound_none _ _ _ _ (c.nothing_grows.ensures _ _ _ _ c.requires.ready.none_gone);
        ready = c.requires.ready;
      },
    )

pub returns-in_default-clause-done : goal.returns-in_default-clause-done
returns-in_default-clause-done g c =
    record {
      told = λ told.
          let sofar = c.loop-walker.invariant.1 in
          let visits : List Visit = c.loop-walker.invariant.0 in
          let answers : Answering State = answers_by (map (player_of (λ b. (goal.Module-dyn g (b.vtable, b.value)).label b.value) (λ b. (goal.Module-dyn g (b.vtable, b.value)).plays b.value) (λ b. (goal.Module-dyn g (b.vtable, b.value)).note b.value) (λ b. (goal.Module-dyn g (b.vtable, b.value)).breaks b.value)) c.args.mods.now) c.args.request.func c.args.request.flags in
          let serve = serving c.args.request.kind (by_place c.args.follows.now) answers in
          let here : State = state_of (plain_room (λ b. (goal.Conv-dyn g (b.vtable, b.value)).conv_holds b.value) c.loop-walker.room) (plain_world (λ b. (goal.Vault-dyn g (b.vtable, b.value)).vault_holds b.value) (λ b. (goal.Clock-dyn g (b.vtable, b.value)).clock_holds b.value) (λ b. (goal.Nap-dyn g (b.vtable, b.value)).nap_holds b.value) c.loop-walker.world) in
          let later : State = state_of (plain_room (λ b. (goal.Conv-dyn g (b.vtable, b.value)).conv_holds b.value) c.next_answer.new.room) (plain_world (λ b. (goal.Vault-dyn g (b.vtable, b.value)).vault_holds b.value) (λ b. (goal.Clock-dyn g (b.vtable, b.value)).clock_holds b.value) (λ b. (goal.Nap-dyn g (b.vtable, b.value)).nap_holds b.value) c.next_answer.new.world) in
          let now = both_tell _ _ _ _ sofar.room_tells sofar.world_tells told in
          let off = put_off c.args.request.kind serve c.loop-walker.chain.nodes c.loop-walker.walker (pass_state c.loop-walker.memory.answers.past visits here) c.next_answer.new.memory.answers.past visits later
          c.in_ok-answer.field-0 _ (omega (arith, c.loop-walker-test.true, c.len.ensures.counted)) (c.in_ok-answer.ensures.told now c.args.request.kind (by_place c.args.follows.now) visits) c.in_default.is in
          walks_off _ c.loop-walker.walker.opinion c.next_answer.new.memory.answers.past visits later c.loop-walker.keeps c.next_answer.new.memory.answers
          (c.in_ok-answer.ensures.line.taken ∙ ap (taken_with c.loop-walker.memory.answers.taken) c.in_default.is ∙ sofar.progress.taken_is) sofar.progress.kept_is
          (turn_more c.args.request.kind serve c.loop-walker.chain.nodes c.args.chain.now.nodes c.loop-walker.walker _ _ (λ stack. halted c.loop-walker.walker.opinion (pass_state c.next_answer.new.memory.answers.past visits later)) sofar.nodes off (sofar.goes told));
      by_trail =
          let sofar = c.loop-walker.invariant.1 in
          let visits : List Visit = c.loop-walker.invariant.0 in
          traced_put_off _ _ _ _ _ _ _ _ _ c.loop-walker.walker c.loop-walker.memory.answers.past c.next_answer.new.memory.answers.past visits _ _ sofar.traced c.loop-walker.keeps c.next_answer.new.memory.answers
          (c.in_ok-answer.ensures.line.taken ∙ ap (taken_with c.loop-walker.memory.answers.taken) c.in_default.is ∙ sofar.progress.taken_is) sofar.progress.kept_is
          _ c.in_ok-answer.field-0 sofar.nodes c.in_ok-answer.ensures.line.took c.in_default.is (omega (arith, c.loop-walker-test.true, c.len.ensures.counted));
    }

pub returns-in_default-clause-flat : goal.returns-in_default-clause-flat
returns-in_default-clause-flat g c =
    record {
      nodes = c.loop-walker.invariant.1.nodes;
      names = c.loop-walker.invariant.1.names;
      looks = omega (arith, c.in_ok-answer.ensures.counted, c.loop-walker.invariant.1.looks);
    }

pub returns-in_default-clause-stays : goal.returns-in_default-clause-stays
returns-in_default-clause-stays g c =
    record {
      room_tells = c.next_answer.ensures.stays.room_tells ∙ c.loop-walker.invariant.1.room_tells;
      world_tells = c.next_answer.ensures.stays.world_tells ∙ c.loop-walker.invariant.1.world_tells;
      nap = c.next_answer.ensures.stays.nap ∙ c.loop-walker.invariant.1.nap;
      sound = c.soundness_is_transitive.ensures _ _ _ _ _ _ _ _ c.loop-walker.invariant.1.sound c.next_answer.ensures.stays.sound;
      ready = c.next_answer.ensures.stays.ready;
    }

pub returns-in_err-answer-clause-stays : goal.returns-in_err-answer-clause-stays
returns-in_err-answer-clause-stays g c =
    record {
      room_tells = c.next_answer.ensures.stays.room_tells ∙ c.loop-walker.invariant.1.room_tells;
      world_tells = c.next_answer.ensures.stays.world_tells ∙ c.loop-walker.invariant.1.world_tells;
      nap = c.next_answer.ensures.stays.nap ∙ c.loop-walker.invariant.1.nap;
      sound = c.soundness_is_transitive.ensures _ _ _ _ _ _ _ _ c.loop-walker.invariant.1.sound c.next_answer.ensures.stays.sound;
      ready = c.next_answer.ensures.stays.ready;
    }

pub loop-walker-preserved : goal.loop-walker-preserved
loop-walker-preserved g c =
    let sofar = c.loop-walker.invariant.1 in
    let visits : List Visit = c.loop-walker.invariant.0 in
    let answer : Code = c.in-Some.answer in
    let at = c.loop-walker.walker.at in
    let answers : Answering State = answers_by (map (player_of (λ b. (goal.Module-dyn g (b.vtable, b.value)).label b.value) (λ b. (goal.Module-dyn g (b.vtable, b.value)).plays b.value) (λ b. (goal.Module-dyn g (b.vtable, b.value)).note b.value) (λ b. (goal.Module-dyn g (b.vtable, b.value)).breaks b.value)) c.args.mods.now) c.args.request.func c.args.request.flags in
    let serve = serving c.args.request.kind (by_place c.args.follows.now) answers in
    let here : State = state_of (plain_room (λ b. (goal.Conv-dyn g (b.vtable, b.value)).conv_holds b.value) c.loop-walker.room) (plain_world (λ b. (goal.Vault-dyn g (b.vtable, b.value)).vault_holds b.value) (λ b. (goal.Clock-dyn g (b.vtable, b.value)).clock_holds b.value) (λ b. (goal.Nap-dyn g (b.vtable, b.value)).nap_holds b.value) c.loop-walker.world) in
    let later : State = state_of (plain_room (λ b. (goal.Conv-dyn g (b.vtable, b.value)).conv_holds b.value) c.next_answer.new.room) (plain_world (λ b. (goal.Vault-dyn g (b.vtable, b.value)).vault_holds b.value) (λ b. (goal.Clock-dyn g (b.vtable, b.value)).clock_holds b.value) (λ b. (goal.Nap-dyn g (b.vtable, b.value)).nap_holds b.value) c.next_answer.new.world) in
    let within : at < lines_in c.loop-walker.chain.nodes = omega (arith, c.loop-walker-test.true, c.len.ensures.counted) in
    let held : is_some c.act_on.new.keeps ≡ is_some c.loop-walker.keeps = ap is_some c.act_on.ensures.keeps ∙ held-more c.loop-walker.keeps at answer in
    let taken_so : c.next_answer.new.memory.answers.taken ≡ c.loop-walker.memory.answers.taken ++ answer ∷ [] = c.in_ok-answer.ensures.line.taken ∙ ap (taken_with c.loop-walker.memory.answers.taken) c.in-Some.is in (
      visits ++ visit (at + 1) answer ∷ [],
      record {
        goes = λ told.
            let now = both_tell _ _ _ _ sofar.room_tells sofar.world_tells told in
            let on = taken c.args.request.kind serve c.loop-walker.chain.nodes c.loop-walker.walker (pass_state c.loop-walker.memory.answers.past visits here) c.next_answer.new.memory.answers.past visits later
            c.in_ok-answer.field-0 answer _ c.act_on.new.walker within (c.in_ok-answer.ensures.told now c.args.request.kind (by_place c.args.follows.now) visits) c.in-Some.is
            (λ l stands. subst (λ (o : Option Code). GoesOn c.args.request.kind l answer (decides c.args.request.kind (by_place c.args.follows.now) (at + 1) (answer_in o)) c.loop-walker.walker c.act_on.new.walker) (sym c.in-Some.is) (c.act_on.ensures.line l stands)) in
            turn_more c.args.request.kind serve c.loop-walker.chain.nodes c.args.chain.now.nodes c.loop-walker.walker _ _
            (λ stack. walk_on c.args.request.kind serve stack c.act_on.new.walker (pass_state c.next_answer.new.memory.answers.past (visits ++ visit (at + 1) answer ∷ []) later))
            sofar.nodes on (sofar.goes told);
        far = far_later _ _ _ _ _ _ _ _ _ _ c.loop-walker.walker c.act_on.new.walker c.loop-walker.memory.answers.past c.next_answer.new.memory.answers.past answer _ later c.in_ok-answer.field-0 sofar.nodes _ (both_tell _ _ _ _ sofar.room_tells sofar.world_tells) sofar.far c.act_on.ensures.goes c.in_ok-answer.ensures.line.took c.in-Some.is;
        traced = traced_later _ _ _ _ _ _ _ _ _ c.loop-walker.walker c.loop-walker.memory.answers.past c.next_answer.new.memory.answers.past visits _ later sofar.traced _ c.act_on.new.walker answer c.in_ok-answer.field-0 sofar.nodes c.act_on.ensures.goes c.in_ok-answer.ensures.line.took c.in-Some.is;
        progress = one_more c.loop-walker.keeps c.act_on.new.keeps c.loop-walker.memory.answers.taken c.next_answer.new.memory.answers.taken at c.act_on.new.walker.at visits answer sofar.progress
            (λ there. omega (arith, sofar.cells there, within, ap lines_in sofar.nodes)) held c.act_on.ensures.keeps taken_so c.act_on.ensures.ahead;
        few = omega (arith, ap length taken_so, length-append c.loop-walker.memory.answers.taken (answer ∷ []), sofar.few, c.act_on.ensures.ahead);
        answers_fit = omega (arith, c.in_ok-answer.ensures.line.answers, sofar.answers_fit);
        spare = omega (arith, c.next_answer.ensures.spare, sofar.spare, c.act_on.ensures.ahead);
        paths = paths_ahead _ _ (at + 1) _ (omega (arith, c.act_on.ensures.ahead)) (subst (λ (t : Stack). HasPaths t (at + 1) c.next_answer.new.memory.paths) sofar.nodes c.next_answer.ensures.line.paths);
        cells = λ there. ap lines_kept c.act_on.ensures.keeps ∙ lines_kept-more c.loop-walker.keeps at answer ∙ sofar.cells (sym held ∙ there);
        held = held ∙ sofar.held;
        room_tells = c.next_answer.ensures.stays.room_tells ∙ sofar.room_tells;
        world_tells = c.next_answer.ensures.stays.world_tells ∙ sofar.world_tells;
        nap = c.next_answer.ensures.stays.nap ∙ sofar.nap;
        nodes = c.act_on.ensures.nodes ∙ sofar.nodes;
        names = c.act_on.ensures.names ∙ sofar.names;
        looks = omega (arith, c.in_ok-answer.ensures.counted, c.act_on.ensures.looks, sofar.looks);
        sound = c.soundness_is_transitive.ensures _ _ _ _ _ _ _ _ sofar.sound c.next_answer.ensures.stays.sound;
        ready = c.next_answer.ensures.stays.ready;
      },
    )

pub returns-clause-done : goal.returns-clause-done
returns-clause-done g c =
    record {
      told = λ told.
          let sofar = c.loop-walker.invariant.1 in
          let answers : Answering State = answers_by (map (player_of (λ b. (goal.Module-dyn g (b.vtable, b.value)).label b.value) (λ b. (goal.Module-dyn g (b.vtable, b.value)).plays b.value) (λ b. (goal.Module-dyn g (b.vtable, b.value)).note b.value) (λ b. (goal.Module-dyn g (b.vtable, b.value)).breaks b.value)) c.args.mods.now) c.args.request.func c.args.request.flags in
          let now : State = state_of (plain_room (λ b. (goal.Conv-dyn g (b.vtable, b.value)).conv_holds b.value) c.loop-walker.room) (plain_world (λ b. (goal.Vault-dyn g (b.vtable, b.value)).vault_holds b.value) (λ b. (goal.Clock-dyn g (b.vtable, b.value)).clock_holds b.value) (λ b. (goal.Nap-dyn g (b.vtable, b.value)).nap_holds b.value) c.loop-walker.world) in
          let past_end : lines_in c.args.chain.now.nodes ≤ c.loop-walker.walker.at = omega (arith, c.len.ensures.counted, c.loop-walker-test.false, ap lines_in sofar.nodes) in
          walks_to _ c.loop-walker.walker.opinion c.loop-walker.memory.answers.past c.loop-walker.invariant.0 now c.loop-walker.keeps c.loop-walker.memory.answers sofar.progress.taken_is sofar.progress.kept_is _ c.verdict.ensures
          (ended_at_last c.args.request.kind (serving c.args.request.kind (by_place c.args.follows.now) answers) c.args.chain.now.nodes c.loop-walker.walker _ _ past_end (sofar.goes told));
      by_trail =
          let sofar = c.loop-walker.invariant.1 in
          traced_ended _ _ _ _ _ c.loop-walker.walker c.loop-walker.memory.answers.past c.loop-walker.invariant.0 _ c.loop-walker.keeps c.loop-walker.memory.answers _ sofar.traced sofar.progress.taken_is sofar.progress.kept_is
          (omega (arith, c.len.ensures.counted, c.loop-walker-test.false, ap lines_in sofar.nodes)) c.verdict.ensures;
    }

pub returns-clause-flat : goal.returns-clause-flat
returns-clause-flat g c =
    record {
      nodes = c.loop-walker.invariant.1.nodes;
      names = c.loop-walker.invariant.1.names;
      looks = omega (arith, c.loop-walker.invariant.1.looks);
    }

pub returns-in_err-answer-clause-stopped : goal.returns-in_err-answer-clause-stopped
returns-in_err-answer-clause-stopped g c =
    let sofar = c.loop-walker.invariant.1 in
    let answered : c.from_residual.result ≡ Err c.in_err-answer.field-0.0 = search rules in
    rw answered (stops_later _ _ _ _ _ _ _ _ _ _ c.loop-walker.walker c.loop-walker.memory.answers.past _ _ _ sofar.nodes _ (both_tell _ _ _ _ sofar.room_tells sofar.world_tells) sofar.far c.in_err-answer.ensures.line.at_work.0 (omega (arith, c.loop-walker-test.true, c.len.ensures.counted)) c.in_err-answer.ensures.line.at_work.1
    (length-map c.args.mods.now (player_of (λ b. (goal.Module-dyn g (b.vtable, b.value)).label b.value) (λ b. (goal.Module-dyn g (b.vtable, b.value)).plays b.value) (λ b. (goal.Module-dyn g (b.vtable, b.value)).note b.value) (λ b. (goal.Module-dyn g (b.vtable, b.value)).breaks b.value))) c.next_answer.ensures.stays.sound (ap (λ b. (goal.Nap-dyn g (b.vtable, b.value)).nap_holds b.value) c.next_answer.ensures.stays.nap) c.in_err-answer.ensures.line.broken)
