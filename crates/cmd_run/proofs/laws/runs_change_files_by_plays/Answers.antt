use Rattle.cmd_run.proofs.Filewise.{all_closed_leave, script_leads}
use Rattle.cmd_run.proofs.laws.runs_change_files_by_plays.Goals as goal

pub returns : goal.returns
returns c = record {
  script = λ setting n s script.
      script_leads setting c.steps_change_files_by_plays.ensures.asks c.steps_change_files_by_plays.ensures.moments c.steps_change_files_by_plays.ensures.step
      c.steps_change_files_by_plays.ensures.together script n s;
  closings = λ players status s. all_closed_leave players status s;
}
