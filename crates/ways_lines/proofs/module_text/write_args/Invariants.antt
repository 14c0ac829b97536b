use Rattle.std.proofs.Common.{◌≡◌, ◌++◌, take, string_bytes}
use Rattle.std.specs.List.{flat_map}
use Rattle.ways_lines.specs.Fields.{field}
use Rattle.ways_lines.proofs.module_text.write_args.Given as goal

abbrev pub invariant-loop-arg : goal.invariant-loop-arg
invariant-loop-arg l = string_bytes l.text ≡ string_bytes l.fn.text ++ flat_map field (take l.arg-index l.args)
