use Rattle.record_reader.proofs.Wholly.{turns_run}
use Rattle.record_reader.proofs.laws.turns_are_a_run.Goals as goal

pub returns : goal.returns
returns g c = λ setting. turns_run _ _ _ _ c.cuts.ensures (c.keeps.ensures setting)
