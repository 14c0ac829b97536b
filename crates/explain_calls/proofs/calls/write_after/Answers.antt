use Rattle.std.proofs.Common.{rules}
use Rattle.handler_chain.specs.Retell.{telling}
use Rattle.pass_replay.specs.Held.{held_of}
use Rattle.pass_replay.specs.Kept.{kept_answers}
use Rattle.pass_replay.specs.Retold.{stacks_in}
use Rattle.pass_replay.specs.Told.{visits_in}
use Rattle.std.specs.Prelude.{string_bytes}
use Rattle.explain_calls.proofs.ChauthtokTextFacts.{only_first}
use Rattle.explain_calls.proofs.calls.write_after.Goals as goal

pub returns-then-ne : goal.returns-then-ne
returns-then-ne c =
    only_first (stacks_in c.args.call.trees.now) c.args.call.sources.now c.args.call.number c.args.func c.args.call.past.now (kept_answers c.args.first.now)
    (held_of c.args.call.held.now) (telling (visits_in c.args.call.told.now)) (string_bytes c.args.text.now) (string_bytes c.write_first.new.text)
    c.write_first.result (λ same. search rules) c.write_first.ensures
