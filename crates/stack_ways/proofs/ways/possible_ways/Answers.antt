use Rattle.std.proofs.Common.{List, [], refl, subst}
use Rattle.control_words.specs.Stack.{stack_of}
use Rattle.handler_chain.specs.declared.opinion.Opinion.{Opinion}
use Rattle.handler_chain.specs.Opinion.{opening}
use Rattle.stack_ways.specs.declared.way.Way.{Way}
use Rattle.stack_ways.specs.LineCodes.{counts_in, possible_in}
use Rattle.stack_ways.specs.Steps.{AfterSub}
use Rattle.stack_ways.specs.Ways.{Each, Gained, WaysOf}
use Rattle.stack_ways.proofs.WaitingWayFacts.{all_ended, none_skips}
use Rattle.stack_ways.proofs.ways.possible_ways.Goals as goal

pub returns-clause-ways : goal.returns-clause-ways
returns-clause-ways c =
    let first : Way = record { opinion = opening; skip = 0; marks = [] } in
    let of = subst (λ (o : Opinion). WaysOf (possible_in c.args.assumed.now) (counts_in c.args.assumed.now) (stack_of c.args.nodes.now.vec.items) 1 o
    c.in_ok-all.all) c.opening.ensures c.in_ok-all.ensures in
    let gained = subst (λ (all : List Way). Gained (Each (AfterSub first) all) [] c.in_ok-ways.ways) c.items.ensures (c.in_ok-ways.ensures {u = tt}).gained in
    all_ended (possible_in c.args.assumed.now) (counts_in c.args.assumed.now) (stack_of c.args.nodes.now.vec.items) 1 opening first c.in_ok-all.all
    c.in_ok-ways.ways refl of gained

pub returns-clause-ended : goal.returns-clause-ended
returns-clause-ended c = none_skips _ _ _ (c.in_ok-ways.ensures {u = tt}).gained
