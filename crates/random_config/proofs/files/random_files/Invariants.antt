use Rattle.std.proofs.Common.{◌≡◌, ◌-◌, ◌*◌, ◌≤◌, min, map}
use Rattle.std.specs.List.{range_with_len}
use Rattle.random_config.specs.Generator.{state_after}
use Rattle.random_config.specs.Files.{random_file}
use Rattle.random_config.proofs.files.random_files.Given as goal

abbrev pub invariant-loop-number : goal.invariant-loop-number
invariant-loop-number l = (l.files.items ≡ map (random_file l.fn.seed l.fn.lines) (range_with_len 1 (l.number - 1)))
    × (l.generator.state ≡ state_after l.fn.seed (3 * min (32 * (l.number - 1)) l.fn.lines)) × (1 ≤ l.number)
