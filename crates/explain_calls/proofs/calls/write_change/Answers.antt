use Rattle.std.proofs.Common.{ap}
use Rattle.std.specs.Prelude.{string_bytes}
use Rattle.handler_chain.specs.Retell.{telling}
use Rattle.pass_replay.specs.Held.{held_of}
use Rattle.pass_replay.specs.Kept.{kept_answers}
use Rattle.pass_replay.specs.Retold.{stacks_in}
use Rattle.pass_replay.specs.Told.{visits_in}
use Rattle.explain_calls.proofs.ChauthtokTextFacts.{both_left}
use Rattle.explain_calls.proofs.calls.write_change.Goals as goal

pub returns-in-None : goal.returns-in-None
returns-in-None c =
    both_left (stacks_in c.args.call.trees.now) c.args.call.sources.now c.args.call.number c.args.call.past.now (kept_answers c.args.first.now)
    (held_of c.args.call.held.now) (telling (visits_in c.args.call.told.now)) (string_bytes c.args.text.now) (string_bytes c.write_check.new.text)
    c.write_check.result (ap kept_answers c.in-None.is) c.write_check.ensures
