use Rattle.std.proofs.Common.{arith}
use Rattle.conv_port.proofs.FirstReplyFacts.{next_of, none_after}
use Rattle.conv_port.proofs.ExchangeFacts.{one_more, all_replies}
use Rattle.conv_port.proofs.term_conv.converse.Goals as goal

pub loop-message-preserved : goal.loop-message-preserved
loop-message-preserved g c =
    let next = next_of c.args.messages.now c.loop-message.message-index c.message-item.result (omega (arith, c.loop-message-test.true)) c.message-item.is in
    rw c.in_ok-push.ensures.ok (one_more _ _ _ _ _ _ _ _ _ _ _ (rw next at c.loop-message.invariant) c.in_ok-read_reply.ensures.reply c.in_ok-read_reply.ensures.typed c.in_ok-show.ensures.shown)

pub returns-clause-replies : goal.returns-clause-replies
returns-clause-replies g c =
    let none = none_after c.args.messages.now c.loop-message.message-index (omega (arith, c.loop-message-test.false)) in
    all_replies _ _ _ _ _ _ (rw none at c.loop-message.invariant)
