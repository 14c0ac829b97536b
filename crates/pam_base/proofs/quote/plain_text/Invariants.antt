use Rattle.std.proofs.Common.{◌≡◌, take}
use Rattle.pam_base.specs.Quote.{quoted_text}
use Rattle.pam_base.proofs.quote.plain_text.Given as goal

abbrev pub invariant-loop-byte : goal.invariant-loop-byte
invariant-loop-byte l = quoted_text (take l.byte-index l.bytes) ≡ take l.byte-index l.bytes
