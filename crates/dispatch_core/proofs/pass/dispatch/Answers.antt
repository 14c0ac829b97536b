use Rattle.std.proofs.Common.{◌≡◌, true, is_some, refl, sym, ◌∙◌, ap, rules}
use Rattle.control_words.specs.Stack.{lines_in}
use Rattle.pam_room.specs.State.{PlainRoom}
use Rattle.handler_chain.specs.declared.pass_kind.PassKind.TheVariants.{Keep}
use Rattle.dispatch_core.specs.Passes.{by_place}
use Rattle.dispatch_core.proofs.Progress.{first_cells-held, first_cells-open}
use Rattle.dispatch_core.proofs.PassProgressFacts.{stopped_as}
use Rattle.dispatch_core.proofs.RealObjectFacts.{ready_same, sound_same}
use Rattle.dispatch_core.proofs.PassTraceFacts.{pass_leaves, pass_stops, pass_traced}
use Rattle.dispatch_core.proofs.pass.dispatch.Goals as goal

pub walk-ended-requires-clause-cells : goal.walk-ended-requires-clause-cells
walk-ended-requires-clause-cells g c = λ there.
    c.in-Ok.ensures.cells ∙ first_cells-open c.args.request.kind (lines_in c.args.chain.now.nodes) (ap is_some (sym c.in-Ok.ensures.cells) ∙ there)

pub returns-in_default-clause-stays : goal.returns-in_default-clause-stays
returns-in_default-clause-stays g c =
    let same = ap (λ (r : PlainRoom). r.transaction) c.take.ensures.room in
    record {
      room_tells = c.take.ensures.tells;
      world_tells = refl;
      nap = refl;
      sound = sound_same _ _ _ _ _ same (c.nothing_grows.ensures _ _ _ _ c.requires.ready.none_gone);
      ready = ready_same _ _ _ _ same c.requires.ready;
    }

pub returns-clause-done : goal.returns-clause-done
returns-clause-done g c =
    let held : c.args.request.kind ≡ Keep → is_some c.walk-ended.new.keeps ≡ true = λ keep.
    c.walk-ended.ensures.held ∙ ap is_some c.in-Ok.ensures.cells ∙ first_cells-held c.args.request.kind (lines_in c.args.chain.now.nodes) keep in
    record {
      told = λ told.
          pass_leaves c.args.request.kind c.walk-ended.new.keeps c.args.kept.now c.end_pass.new.kept c.walk-ended.new.memory.answers c.end_pass.new.paused held _ _ c.walk-ended.result c.end_pass.result
          c.end_pass.ensures.code c.end_pass.ensures.kept c.end_pass.ensures.paused (rw (c.take.ensures.tells, c.take.ensures.room, c.in-Ok.ensures.past) at c.walk-ended.ensures.done.told told);
      by_trail =
          pass_traced c.args.request.kind c.walk-ended.new.keeps c.args.kept.now c.end_pass.new.kept c.walk-ended.new.memory.answers c.end_pass.new.paused held (by_place c.args.kept.now) c.args.chain.now.nodes _ _ _ _ _ c.walk-ended.result c.end_pass.result
          c.end_pass.ensures.code c.end_pass.ensures.kept c.end_pass.ensures.paused c.in-Ok.ensures.past (ap (λ (r : PlainRoom). r.transaction.trail) c.take.ensures.room) c.walk-ended.ensures.done.by_trail;
    }

pub returns-clause-flat : goal.returns-clause-flat
returns-clause-flat g c =
    record {
      nodes = c.walk-ended.ensures.flat.nodes;
      names = c.walk-ended.ensures.flat.names;
      looks = search rules;
    }

pub returns-clause-stopped : goal.returns-clause-stopped
returns-clause-stopped g c =
    pass_stops c.walk-ended.result c.end_pass.result c.end_pass.ensures.code
    (stopped_as _ _ _ _ _ _ _ _ _ _ _ _ _ _ _ _ c.in-Ok.ensures.past c.take.ensures.tells c.take.ensures.room) c.walk-ended.ensures.stopped
