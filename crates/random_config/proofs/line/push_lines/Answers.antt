use Rattle.std.proofs.Common.{◌+◌, ◌*◌, ap, refl, ◌∙◌, arith, append_assoc}
use Rattle.random_config.specs.Generator.{state_after}
use Rattle.random_config.proofs.GenerationFacts.{lines_more}
use Rattle.random_config.proofs.line.push_lines.Goals as goal

pub loop-i-preserved : goal.loop-i-preserved
loop-i-preserved c = λ seed before at.
    let so = c.loop-i.invariant seed before at in
    let one = c.in_ok-push_line.ensures seed (before + c.loop-i.i) so.1 in
    (one.0 ∙ rw (so.0, lines_more seed before c.loop-i.i, append_assoc) refl, one.1 ∙ ap (λ n. state_after seed (3 * n)) (omega arith))
