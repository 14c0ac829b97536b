use Rattle.std.proofs.Common.{◌≡◌, ◌+◌, ◌-◌, arith}
use Rattle.random_config.proofs.GenerationFacts.{next_file}
use Rattle.random_config.proofs.files.random_files.Goals as goal

pub loop-number-preserved : goal.loop-number-preserved
loop-number-preserved c =
    let so = c.in_ok-random_file.ensures c.args.seed c.loop-number.invariant.1 in
    let e : c.loop-number.number + 1 - 1 ≡ c.loop-number.number = omega arith in
    (next_file _ _ _ _ c.loop-number.number c.loop-number.invariant.2 c.loop-number.invariant.0 c.in_ok-push.ensures.items so.0, rw e so.1, omega arith)
