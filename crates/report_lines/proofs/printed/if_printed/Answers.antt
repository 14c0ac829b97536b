use Rattle.std.proofs.Common.{sym, ◌∙◌, ap}
use Rattle.std.specs.Option.{option_map}
use Rattle.report_lines.specs.Says.{bare}
use Rattle.report_lines.proofs.Tested.{printed, unprinted}
use Rattle.report_lines.proofs.printed.if_printed.Goals as goal

pub returns-then-is_line : goal.returns-then-is_line
returns-then-is_line c = λ s is same. same ∙ ap (option_map bare) (sym (printed c.args.line.now c.args.text.now s is (sym c.is_line.ensures ∙ c.if-is_line.true)))

pub returns-else-is_line : goal.returns-else-is_line
returns-else-is_line c = λ s is same. ap (option_map bare) (sym (unprinted c.args.line.now c.args.text.now s is (sym c.is_line.ensures ∙ c.if-is_line.false)))
