use Rattle.std.proofs.Common.{◌≡◌, ◌++◌, drop}
use Rattle.std.specs.List.{flat_map}
use Rattle.service_print.specs.Tokens.{escaped_byte}
use Rattle.service_print.proofs.token.add_escaped.Given as goal

abbrev pub invariant-loop-byte : goal.invariant-loop-byte
invariant-loop-byte l = l.line.items ++ flat_map escaped_byte (drop l.byte-index l.token) ≡ l.fn.line.items ++ flat_map escaped_byte l.token
