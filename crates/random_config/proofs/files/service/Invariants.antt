use Rattle.std.proofs.Common.{◌≡◌, ◌-◌, ◌≤◌, string_bytes}
use Rattle.std.specs.List.{filter, flat_map, range_with_len}
use Rattle.random_config.specs.Files.{is_odd, substack_line}
use Rattle.random_config.proofs.files.service.Given as goal

abbrev pub invariant-loop-number : goal.invariant-loop-number
invariant-loop-number l = (string_bytes l.text ≡ flat_map substack_line (filter is_odd (range_with_len 1 (l.number - 1)))) × (1 ≤ l.number)
