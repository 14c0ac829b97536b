use Rattle.std.proofs.Common.{refl, ap}
use Rattle.std.proofs.lemmas.Bool.{and_parts}
use Rattle.report_step.specs.pam_room.specs.declared.process.Process.{Process}
use Rattle.cmd_run.proofs.RunPartFacts.{line_moves, on_ok, went_as_asked, went_nowhere, went_quietly}
use Rattle.cmd_run.proofs.CallSequenceFacts.{receipts_stay}
use Rattle.cmd_run.proofs.StreamBytesFacts.{err_unwritten, ok_unwritten, report_written}
use Rattle.cmd_run.proofs.CallReportFacts.{made_broken, made_none, made_report}
use Rattle.cmd_run.proofs.ItemEffectFacts.{failed_place, failed_stack, line_called, line_failed, line_sets, line_silent}
use Rattle.cmd_run.proofs.serve.apply_line.Goals as goal

pub returns-in-Blank : goal.returns-in-Blank
returns-in-Blank g c = record {
  told = λ moments delay is told sink. line_silent _ _ _ _ c.in-Blank.is _ _ _ _ refl refl;
  went = went_nowhere _ _ c.requires.sound;
  moves = line_moves _ _ _ _ _ _ _ c.in-Blank.is (c.nothing_moves.ensures _ _ _ _ _ _ refl (λ h. refl));
  writes = λ sink. ok_unwritten _ _;
  made = λ sink. made_none _ _ _ _ _;
  faults = refl;
  sink_tells = refl;
}

pub returns-in-At : goal.returns-in-At
returns-in-At g c = record {
  told = λ moments delay is told sink. line_sets _ _ _ _ c.in-At.is _ _ _ _ _ refl refl (c.set_world_moment.ensures.sets.told (and_parts _ _ told).1);
  went = went_quietly _ _ _ refl refl c.set_world_moment.ensures.sets.tells (λ number gives. gives) (λ number gives. gives) refl
      (rw c.set_world_moment.ensures.process refl) c.requires.sound;
  moves = line_moves _ _ _ _ _ _ _ c.in-At.is (c.nothing_moves.ensures _ _ _ _ _ _ (ap (λ (p : Process). p.ledger) c.set_world_moment.ensures.process) (λ h. refl));
  writes = λ sink. ok_unwritten _ _;
  made = λ sink. made_none _ _ _ _ _;
  faults = refl;
  sink_tells = refl;
}

pub returns-in-Random : goal.returns-in-Random
returns-in-Random g c = record {
  told = λ moments delay is told sink. line_sets _ _ _ _ c.in-Random.is _ _ _ _ _ refl refl (c.set_world_word.ensures.sets.told (and_parts _ _ told).1);
  went = went_quietly _ _ _ refl refl c.set_world_word.ensures.sets.tells (λ number gives. gives) (λ number gives. gives) refl
      (rw c.set_world_word.ensures.process refl) c.requires.sound;
  moves = line_moves _ _ _ _ _ _ _ c.in-Random.is (c.nothing_moves.ensures _ _ _ _ _ _ (ap (λ (p : Process). p.ledger) c.set_world_word.ensures.process) (λ h. refl));
  writes = λ sink. ok_unwritten _ _;
  made = λ sink. made_none _ _ _ _ _;
  faults = refl;
  sink_tells = refl;
}

pub returns-in-Caller : goal.returns-in-Caller
returns-in-Caller g c = record {
  told = λ moments delay is told sink. line_sets _ _ _ _ c.in-Caller.is _ _ _ _ _ refl refl c.set_caller.ensures.plain;
  went = went_quietly _ _ _ refl refl c.set_caller.ensures.tells (λ number gives. gives) (λ number gives. gives) refl
      c.set_caller.ensures.ledger c.requires.sound;
  moves = line_moves _ _ _ _ _ _ _ c.in-Caller.is (c.nothing_moves.ensures _ _ _ _ _ _ c.set_caller.ensures.ledger (λ h. refl));
  writes = λ sink. ok_unwritten _ _;
  made = λ sink. made_none _ _ _ _ _;
  faults = refl;
  sink_tells = refl;
}

-- ---- a call

pub write_step-requires-clause-from : goal.write_step-requires-clause-from
write_step-requires-clause-from g c = rw c.in-Ok.ensures.answers.filed_from (receipts_stay _ _ _ _ _ _ _ _ c.apply.ensures.leaves.spends)

pub returns-in-Err : goal.returns-in-Err
returns-in-Err g c = record {
  told = λ moments delay is told sink.
      line_failed _ _ _ _ c.in-Step.is _ _ _ (record {
        place = failed_place _ _ _ _ _ told c.in-Err.ensures.fails.fails;
        leaves = c.apply.ensures.leaves;
        stops = failed_stack _ _ _ _ _ _ _ told c.in-Err.ensures.fails.stops;
        world = λ h. rw (c.apply.ensures.world h) refl;
        nap = rw c.in-Err.ensures.fails.no_nap refl;
      });
  went = went_as_asked _ _ c.in-Step.is _ _ (rw c.apply.ensures.gear refl) (λ number gives. rw c.apply.ensures.gear gives)
      (λ number gives. rw c.apply.ensures.gear at gives) c.apply.ensures.keeps;
  moves = tt;
  writes = λ sink. err_unwritten _ _;
  made = λ sink. made_broken _ _ _ _ _ _;
  faults = refl;
  sink_tells = refl;
}

pub returns : goal.returns
returns g c = record {
  told = λ moments delay is told sink.
      line_called _ _ _ _ c.in-Step.is c.write_step.result _ _ _ _ _ _ _ (c.in-Ok.ensures.told delay is told) (rw c.apply.ensures.gear refl)
      (c.write_step.ensures.told sink);
  went = went_as_asked _ _ c.in-Step.is _ _ (rw c.apply.ensures.gear refl) (λ number gives. rw c.apply.ensures.gear gives)
      (λ number gives. rw c.apply.ensures.gear at gives) c.apply.ensures.keeps;
  moves = on_ok c.write_step.result (line_moves _ _ _ _ _ _ _ c.in-Step.is c.apply.ensures.keeps.moves);
  writes = λ sink. report_written c.write_step.result _ _ _ (c.write_step.ensures.told sink);
  made = λ sink.
      made_report _ _ _ _ _ _ _ c.in-Ok.ensures.answers.answer c.in-Ok.ensures.answers.traces c.apply.ensures.leaves.others _ _ c.write_step.result
      (rw c.apply.ensures.gear at (c.write_step.ensures.told sink));
  faults = c.write_step.ensures.faults;
  sink_tells = c.write_step.ensures.sink_tells;
}
