use Rattle.std.proofs.Common.{◌≡◌, ◌++◌, take, string_bytes}
use Rattle.std.specs.List.{flat_map}
use Rattle.ways_lines.specs.Controls.{entry_text}
use Rattle.ways_lines.proofs.control_text.write_entries.Given as goal

abbrev pub invariant-loop-code : goal.invariant-loop-code
invariant-loop-code l = string_bytes l.text ≡ string_bytes l.fn.text ++ flat_map (entry_text l.control) (take l.code-index l.codes)
