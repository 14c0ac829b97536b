use Rattle.std.proofs.Common.{List, ◌∙◌, ap}
use Rattle.dispatch_core.specs.Calls.{cached_after}
use Rattle.pass_replay.specs.declared.visited.Visited.{Visited}
use Rattle.pass_replay.specs.Kept.{kept_answers, visits_of}
use Rattle.pass_replay.specs.Passed.{ended_paused}
use Rattle.pass_replay.specs.Walk.{state_in}
use Rattle.pass_replay.proofs.PassResultFacts.{finished}
use Rattle.pass_replay.proofs.pass.finish.Goals as goal

pub returns : goal.returns
returns c = λ past told walked is.
    finished c.args.kind (kept_answers c.args.follows) walked c.args.end (state_in past told c.args.replay)
    c.code_of.result (kept_answers c.in_ok-kept.kept) c.in_ok-paused.paused is c.code_of.ensures
    (c.in_ok-kept.ensures
    ∙ ap (λ (vs : List Visited). cached_after c.args.kind (visits_of vs) (kept_answers c.args.follows)) c.items.ensures)
    (c.in_ok-paused.ensures ∙ ap (λ (vs : List Visited). ended_paused c.args.end (visits_of vs)) c.items-2.ensures)
