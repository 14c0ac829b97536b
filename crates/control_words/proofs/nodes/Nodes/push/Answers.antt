use Rattle.std.proofs.Common.{◌≡◌, ◌++◌, ◌∷◌, [], ap, ◌∙◌, rules}
use Rattle.control_words.specs.Stack.{stack_of}
use Rattle.control_words.proofs.NodeListFacts.{stack_of-append}
use Rattle.control_words.proofs.nodes.Nodes.push.Goals as goal

pub returns-clause-ok : goal.returns-clause-ok
returns-clause-ok c =
    let pushed : c.push.new.self.items ≡ c.args.self.now.vec.items ++ c.args.node ∷ [] = search rules in
    ap stack_of pushed ∙ stack_of-append _ _
