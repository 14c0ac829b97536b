use Rattle.std.proofs.Common.{◌≡◌, sym, ◌∙◌, ap}
use Rattle.handler_chain.specs.FlatLines.{end_at}
use Rattle.dispatch_core.proofs.IndexTurnFacts.{jumped_near, jumped_far, ended_at, goes_ahead}
use Rattle.dispatch_core.proofs.next_line.next_line_after.Goals as goal

pub returns-in-Some-clause-leads : goal.returns-in-Some-clause-leads
returns-in-Some-clause-leads c = λ s stands. jumped_near c.args.chain.now.nodes _ _ _ _ _ s c.in-Jump.is c.in-Some.ensures.value stands

pub returns-in-Some-clause-ahead : goal.returns-in-Some-clause-ahead
returns-in-Some-clause-ahead c =
    goes_ahead c.args.chain.now.nodes _ _ _ _ _ c.requires.within (λ s stands. jumped_near c.args.chain.now.nodes _ _ _ _ c.args.new s c.in-Jump.is c.in-Some.ensures.value stands)

pub returns-in-None-clause-leads : goal.returns-in-None-clause-leads
returns-in-None-clause-leads c = λ s stands.
    let end : c.end-end.result ≡ end_at c.args.chain.now.nodes c.args.i = c.end-end.ensures.value ∙ ap (λ seen. end_at seen.nodes c.args.i) c.target.ensures.looked in
    jumped_far c.args.chain.now.nodes _ _ _ _ c.args.new _ s c.in-Jump.is c.in-None.ensures.value c.overrun-denied.ensures end stands

pub returns-in-None-clause-ahead : goal.returns-in-None-clause-ahead
returns-in-None-clause-ahead c =
    let end : c.end-end.result ≡ end_at c.args.chain.now.nodes c.args.i = c.end-end.ensures.value ∙ ap (λ seen. end_at seen.nodes c.args.i) c.target.ensures.looked in
    goes_ahead c.args.chain.now.nodes _ _ _ c.args.new _ c.requires.within
    (λ s stands. jumped_far c.args.chain.now.nodes _ _ _ _ c.args.new _ s c.in-Jump.is c.in-None.ensures.value c.overrun-denied.ensures end stands)

pub returns-then-ends-clause-leads : goal.returns-then-ends-clause-leads
returns-then-ends-clause-leads c = λ s stands.
    ended_at c.args.chain.now.nodes _ _ _ _ s (sym c.if-ends.ensures) c.end-past_end.ensures.value stands

pub returns-then-ends-clause-ahead : goal.returns-then-ends-clause-ahead
returns-then-ends-clause-ahead c =
    goes_ahead c.args.chain.now.nodes c.args.action _ _ c.args.new _ c.requires.within
    (λ s stands. ended_at c.args.chain.now.nodes _ _ _ _ s (sym c.if-ends.ensures) c.end-past_end.ensures.value stands)
