use Rattle.pass_replay.specs.Held.{held_of}
use Rattle.pass_replay.specs.Passed.{passed_of}
use Rattle.pass_replay.specs.Replay.{as_told}
use Rattle.pass_replay.specs.Retold.{stacks_in}
use Rattle.pass_replay.proofs.OnePassFacts.{called}
use Rattle.pass_replay.proofs.retelling.one_pass.Goals as goal

pub returns : goal.returns
returns c =
    let told = c.args.source.now.told.now in
    called as_told (stacks_in c.args.source.now.trees.now) c.args.func c.args.past.now (held_of c.args.held) (held_of c.take_cached-cached.new.held) _ _ (passed_of told c.in_ok-passed.passed) _
    c.take_cached-cached.ensures.taken (c.take_cached-cached.ensures.rest (passed_of told c.in_ok-passed.passed)) c.in_ok-passed.ensures (c.retold_call.ensures told)
