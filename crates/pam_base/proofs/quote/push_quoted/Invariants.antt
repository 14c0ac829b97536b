use Rattle.std.proofs.Common.{◌≡◌, ◌++◌, take, string_bytes}
use Rattle.pam_base.specs.Quote.{quoted_text}
use Rattle.pam_base.proofs.quote.push_quoted.Given as goal

abbrev pub invariant-loop-byte : goal.invariant-loop-byte
invariant-loop-byte l = string_bytes l.text ≡ string_bytes l.fn.text ++ quoted_text (take l.byte-index l.bytes)
