use Rattle.std.proofs.Common.{◌≡◌, ◌≤◌, length, drop}
use Rattle.std.specs.Vec.{vec_len, vec_capacity}
use Rattle.conv_port.proofs.FirstReplyFacts.{IsTaking}
use Rattle.conv_port.proofs.queue.take_replies.Given as goal

abbrev pub invariant-loop-message : goal.invariant-loop-message
invariant-loop-message l = record {
  taking : IsTaking l.messages (drop l.message-index l.messages) l.fn.offers.items l.offers.items l.replies.items;
  count : vec_len l.replies ≡ l.message-index;
  room : length l.messages ≤ vec_capacity l.replies;
}
