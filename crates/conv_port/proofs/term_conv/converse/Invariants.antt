use Rattle.std.proofs.Common.{drop}
use Rattle.conv_port.proofs.ExchangeFacts.{IsConversing}
use Rattle.conv_port.proofs.term_conv.converse.Given as goal

abbrev pub invariant-loop-message : goal.invariant-loop-message
invariant-loop-message g l = IsConversing l.messages (drop l.message-index l.messages) l.replies (g.R.Read.remaining l.fn.reader) (g.R.Read.remaining l.reader) (g.W.Write.contents l.fn.writer) (g.W.Write.contents l.writer)
