use Rattle.std.proofs.Common.{◌≡◌, ◌++◌, take, string_bytes}
use Rattle.std.specs.List.{flat_map}
use Rattle.report_lines.specs.Line.{missing_text}
use Rattle.report_step.proofs.missing.write_all_missing.Given as goal

abbrev pub invariant-loop-name : goal.invariant-loop-name
invariant-loop-name l = string_bytes l.text ≡ string_bytes l.fn.text ++ flat_map (missing_text l.handle) (take l.name-index l.names)
