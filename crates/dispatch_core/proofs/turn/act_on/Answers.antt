use Rattle.std.proofs.Common.{subst}
use Rattle.pam_base.specs.declared.code.Code.{Code}
use Rattle.dispatch_core.specs.Index.{GoesOn}
use Rattle.dispatch_core.specs.Passes.{by_place}
use Rattle.dispatch_core.proofs.PassProgressFacts.{goes_by}
use Rattle.dispatch_core.proofs.turn.act_on.Goals as goal

pub returns-clause-line : goal.returns-clause-line
returns-clause-line c = λ l stands.
    subst (λ (k : Code). GoesOn c.args.kind l c.args.answer k c.args.walker.now c.go_on.new.self) c.decide-deciding.ensures (c.go_on.ensures.goes l stands)

pub returns-clause-goes : goal.returns-clause-goes
returns-clause-goes c = goes_by c.args.kind (by_place c.args.follows.now) c.args.chain.now.nodes c.args.answer c.args.walker.now c.go_on.new.self c.requires.within
    (λ l stands. subst (λ (k : Code). GoesOn c.args.kind l c.args.answer k c.args.walker.now c.go_on.new.self) c.decide-deciding.ensures (c.go_on.ensures.goes l stands))
