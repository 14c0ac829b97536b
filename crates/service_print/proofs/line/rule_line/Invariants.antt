use Rattle.std.proofs.Common.{◌≡◌, ◌++◌, drop, map}
use Rattle.std.specs.List.{flat_map}
use Rattle.service_print.specs.Tokens.{after_space, token_text}
use Rattle.service_print.specs.Printed.{rule_line}
use Rattle.service_print.proofs.line.rule_line.Given as goal

abbrev pub invariant-loop-arg : goal.invariant-loop-arg
invariant-loop-arg l = l.line.items ++ flat_map after_space (map token_text (drop l.arg-index l.arg-items)) ≡ rule_line l.fn.rule_type l.rule
