use Rattle.std.proofs.Common.{◌≡◌, ◌++◌, take, string_bytes}
use Rattle.std.specs.List.{flat_map}
use Rattle.report_lines.specs.Line.{variable_text}
use Rattle.report_step.proofs.answered.write_variables.Given as goal

abbrev pub invariant-loop-variable : goal.invariant-loop-variable
invariant-loop-variable l = string_bytes l.text ≡ string_bytes l.fn.text ++ flat_map (variable_text l.handle) (take l.variable-index l.variables)
