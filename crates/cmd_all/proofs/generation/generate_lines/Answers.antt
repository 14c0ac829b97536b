use Rattle.std.proofs.Common.{ap, inr, refl, Err}
use Rattle.record_reader.specs.declared.ending.Stop.TheVariants.{NoMemory}
use Rattle.cmd_all.specs.Exit.{exit_status}
use Rattle.cmd_all.proofs.Alone.{nothing_written}
use Rattle.cmd_all.proofs.CleanupRecordFacts.{cleaned_up, nothing_to_clean, proceeds_too}
use Rattle.cmd_all.proofs.LoggingIn.{ends_generate, generated}
use Rattle.cmd_all.proofs.RunStatusFacts.{both_left, both_right, both_true}
use Rattle.cmd_all.proofs.generation.generate_lines.Goals as goal

pub returns-in-Err-clause-generate : goal.returns-in-Err-clause-generate
returns-in-Err-clause-generate g c = record {
  generated = λ number given sink both. inr (record { is = refl; world = refl; sink = refl });
  generate_writes = λ sink. nothing_written _;
  generate_statuses = (Err NoMemory, refl);
}

pub returns-in-Err-clause-cleaned_up : goal.returns-in-Err-clause-cleaned_up
returns-in-Err-clause-cleaned_up g c = nothing_to_clean _ _ _ c.requires.no_births c.requires.no_receipts

pub returns-in-Ok-clause-generate : goal.returns-in-Ok-clause-generate
returns-in-Ok-clause-generate g c = record {
  generated = λ number given sink both.
      generated _ _ _ _ _ _ _ number _ _ c.generate-generated.result _ c.in-Ok.ensures.players c.in-Ok.ensures.slots
      (ap exit_status c.generate_exit.ensures)
      (c.generate-generated.ensures.told number (c.in-Ok.ensures.gives number given)
      (both_true _ _ (c.in-Ok.ensures.tells (both_right _ _ both)) (both_left _ _ both)) sink);
  generate_writes = λ sink. c.generate-generated.ensures.writes sink;
  generate_statuses = (c.generate-generated.result, ap exit_status c.generate_exit.ensures);
}

pub returns-in-Ok-clause-cleaned_up : goal.returns-in-Ok-clause-cleaned_up
returns-in-Ok-clause-cleaned_up g c =
    rw c.in-Ok.ensures.players at
    (cleaned_up _ _ _ _ _ _ _ (c.proceeding_adds_events.ensures _) c.in-Ok.ensures.none_yet refl
    (proceeds_too _ _ (ends_generate c.generate-generated.result _ (ap exit_status c.generate_exit.ensures)) _ _ _ _ _
    c.generate-generated.ensures.went.proceeds) c.generate-generated.ensures.none_open)
