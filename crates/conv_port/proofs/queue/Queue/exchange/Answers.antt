use Rattle.std.proofs.Common.{◌∙◌}
use Rattle.conv_port.proofs.QueueReplyFacts.{replies_fit}
use Rattle.conv_port.proofs.queue.Queue.exchange.Goals as goal

pub returns-then-are_ready-clause-fit : goal.returns-then-are_ready-clause-fit
returns-then-are_ready-clause-fit c = replies_fit c.self.inside.offers.items _ _ c.self.invariant (c.from_vec.ensures ∙ (rw c.items-then-are_ready.ensures at c.in_ok-replies.ensures.replies))
