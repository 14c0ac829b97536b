use Rattle.cmd_run.proofs.RefusedLineFacts.{bytes_agree}
use Rattle.cmd_run.proofs.laws.refusals_are_of_the_bytes.Goals as goal

pub returns : goal.returns
returns c = record {
  refused = λ setting start bytes ended. (bytes_agree setting start bytes ended).0;
  lines = λ setting start bytes ended. (bytes_agree setting start bytes ended).1;
}
