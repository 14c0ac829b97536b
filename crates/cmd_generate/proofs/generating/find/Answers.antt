use Rattle.cmd_run.proofs.RunPartFacts.{went_so}
use Rattle.cmd_generate.proofs.OutputFacts.{ends_by, finds}
use Rattle.cmd_generate.proofs.generating.find.Goals as goal

pub returns : goal.returns
returns g c = record {
  told = λ delay is told. finds _ c.args.seed c.args.lines _ _ c.attempt-login.result c.describe.result c.describe.ensures.found
      (c.attempt-login.ensures.told delay is told);
  none_open = c.attempt-login.ensures.none_open;
  went = went_so _ _ (ends_by c.args.lines c.attempt-login.result c.describe.result c.describe.ensures.found) _ _ c.attempt-login.ensures.went;
}
