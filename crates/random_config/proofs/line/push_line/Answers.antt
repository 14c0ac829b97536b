use Rattle.random_config.proofs.GenerationFacts.{line_generated}
use Rattle.random_config.proofs.line.push_line.Goals as goal

pub returns : goal.returns
returns c = λ seed before at. line_generated seed before _ at _ _ _ _ _ _ _ _ _ _ _
    c.random_number.ensures.state c.random_number-2.ensures.state c.random_number-3.ensures.state c.random_number.ensures.random_number c.random_number-2.ensures.random_number c.random_number-3.ensures.random_number
    c.pick-success.ensures c.pick-default.ensures c.pick-answer.ensures c.in_ok-write_line.ensures
