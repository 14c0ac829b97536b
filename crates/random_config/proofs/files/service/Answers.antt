use Rattle.std.proofs.Common.{refl, ◌∙◌, arith}
use Rattle.random_config.proofs.GenerationFacts.{next_substack}
use Rattle.random_config.proofs.files.service.Goals as goal

pub loop-number-preserved : goal.loop-number-preserved
loop-number-preserved c =
    (next_substack _ _ c.loop-number.number c.loop-number.invariant.1 c.loop-number.invariant.0 (c.in_ok-push_substack.ensures ∙ rw c.is_odd.ensures refl), omega arith)
