use Rattle.std.proofs.Common.{◌≡◌, ◌+◌, ◌*◌, ◌++◌, ℕ, string_bytes}
use Rattle.random_config.specs.Generator.{state_after}
use Rattle.random_config.specs.Line.{random_lines}
use Rattle.random_config.proofs.line.push_lines.Given as goal

abbrev pub invariant-loop-i : goal.invariant-loop-i
invariant-loop-i l = (seed before : ℕ) → l.fn.generator.state ≡ state_after seed (3 * before) →
    (string_bytes l.text ≡ string_bytes l.fn.text ++ random_lines seed before l.i) × (l.generator.state ≡ state_after seed (3 * (before + l.i)))
