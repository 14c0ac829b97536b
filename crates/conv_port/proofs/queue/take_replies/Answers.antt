use Rattle.std.proofs.Common.{rules, arith}
use Rattle.conv_port.proofs.FirstReplyFacts.{one_more, next_of}
use Rattle.conv_port.proofs.queue.take_replies.Goals as goal

pub loop-message-preserved : goal.loop-message-preserved
loop-message-preserved c =
    let next = next_of c.args.messages.now c.loop-message.message-index c.message-item.result (omega (arith, c.loop-message-test.true)) c.message-item.is in
    let pushed = rw c.unwrap.ensures at c.push.ensures.items in
    record {
      taking = rw pushed (one_more _ _ _ _ _ _ _ _ c.take_reply.ensures (rw next at c.loop-message.invariant.taking));
      count = search rules;
      room = search rules;
    }
