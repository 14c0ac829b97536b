use Rattle.std.proofs.Common.{drop}
use Rattle.service_print.specs.Printed.{stacks_in}
use Rattle.service_print.proofs.FourStacks.{IsPrinting}
use Rattle.service_print.proofs.printing.print.Given as goal

abbrev pub invariant-loop-rule_type : goal.invariant-loop-rule_type
invariant-loop-rule_type l =
    IsPrinting (stacks_in l.trees) l.service (drop l.rule_type-index l.rule_type-items) l.text.items l.files.items
