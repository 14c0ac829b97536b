use Rattle.std.proofs.Common.{◌∙◌, Ok, Err, ap, refl}
use Rattle.std.proofs.lemmas.Bool.{and_parts}
use Rattle.report_step.specs.pam_room.specs.declared.process.Process.{Process}
use Rattle.script_lang.specs.declared.line.Line.{Line}
use Rattle.cmd_run.proofs.CallReportFacts.{made_broken, made_err_as, made_none, made_ok_as}
use Rattle.cmd_run.proofs.ItemEffectFacts.{item_applied, item_refused, item_unbegun}
use Rattle.cmd_run.proofs.RunPartFacts.{went_nowhere, went_on, went_quietly, went_so}
use Rattle.cmd_run.proofs.StreamBytesFacts.{err_as, err_unwritten, ok_as, ok_unwritten, reads_accepted, reads_refused, reads_stopped, reads_unbegun}
use Rattle.cmd_run.proofs.serve.serve.Goals as goal

pub apply_line-requires-clause-sound : goal.apply_line-requires-clause-sound
apply_line-requires-clause-sound g c = rw (ap (λ (p : Process). p.ledger) c.keep_time.ensures.process) c.requires

pub returns-in-Err-NoMemory : goal.returns-in-Err-NoMemory
returns-in-Err-NoMemory g c = record {
  told = λ times delay is told sink. item_unbegun _ _ _ _ _ c.does.ensures _ _ _ _ _;
  went = went_nowhere _ _ c.requires;
  moves = λ e. absurd (cc);
  few = λ e. absurd (cc);
  accepted = λ e. absurd (cc);
  reads = reads_unbegun _ _ _ _ _ c.does.ensures _ _;
  writes = λ sink. err_unwritten _ _;
  made = λ sink. made_broken _ _ _ _ _ _;
  faults = refl;
  sink_tells = refl;
}

pub returns-in-Err-Named : goal.returns-in-Err-Named
returns-in-Err-Named g c = record {
  told = λ times delay is told sink.
      let e = rw c.in-Err-Named.field-0-is at c.in-Err-Named.ensures.asks in
      rw c.in-Err-Named.kind-is (item_refused _ _ _ _ _ c.does.ensures _ _ _ _ _ _ e);
  went = went_nowhere _ _ c.requires;
  moves = λ e. absurd (cc);
  few = λ e. absurd (cc);
  accepted = λ e. absurd (cc);
  reads = (let e = rw c.in-Err-Named.field-0-is at c.in-Err-Named.ensures.asks in
      rw c.in-Err-Named.kind-is (reads_refused _ _ _ _ _ c.does.ensures _ _ _ e));
  writes = λ sink. ok_unwritten _ _;
  made = λ sink. made_none _ _ _ _ _;
  faults = refl;
  sink_tells = refl;
}

pub returns-in-Ok-apply_line : goal.returns-in-Ok-apply_line
returns-in-Ok-apply_line g c = record {
  told = λ times delay is told sink.
      item_applied _ _ _ _ _ c.does.ensures _ _ _ _ _ c.in-Ok.ensures.asks _ _ _ _ (c.keep_time.ensures.sets.told times (and_parts _ _ told).1) (Ok c.in-Ok-apply_line.field-0)
      (c.in-Ok-apply_line.ensures.told _ delay is (rw c.keep_time.ensures.sets.tells told) sink);
  went = went_on _ _ _ _ (went_quietly _ _ _ refl refl c.keep_time.ensures.sets.tells (λ number gives. gives) (λ number gives. gives)
      refl (ap (λ (p : Process). p.ledger) c.keep_time.ensures.process) c.requires)
      (went_so _ _ (λ number status is. c.in-Ok.ensures.asks ∙ ap (λ (l : Line). Ok l) is) _ _ c.apply_line.ensures.went);
  moves = λ none. rw c.in-Ok.ensures.asks (rw c.keep_time.ensures.process at c.in-Ok-apply_line.ensures.moves);
  few = λ none. c.in-Ok.ensures.few;
  accepted = λ none. (_, c.in-Ok.ensures.asks);
  reads = reads_accepted _ _ _ _ _ c.does.ensures _ _ _ c.in-Ok.ensures.asks;
  writes = λ sink. ok_as c.in-Ok-apply_line.field-0 _ _ _ (c.in-Ok-apply_line.ensures.writes sink);
  made = λ sink. made_ok_as _ _ c.in-Ok-apply_line.field-0 _ _ _ _ _ (c.in-Ok-apply_line.ensures.made sink);
  faults = c.in-Ok-apply_line.ensures.faults;
  sink_tells = c.apply_line.ensures.sink_tells;
}

pub returns-in-Err : goal.returns-in-Err
returns-in-Err g c = record {
  told = λ times delay is told sink.
      item_applied _ _ _ _ _ c.does.ensures _ _ _ _ _ c.in-Ok.ensures.asks _ _ _ _ (c.keep_time.ensures.sets.told times (and_parts _ _ told).1) (Err c.in-Err.stop)
      (c.in-Err.ensures.told _ delay is (rw c.keep_time.ensures.sets.tells told) sink);
  went = went_on _ _ _ _ (went_quietly _ _ _ refl refl c.keep_time.ensures.sets.tells (λ number gives. gives) (λ number gives. gives)
      refl (ap (λ (p : Process). p.ledger) c.keep_time.ensures.process) c.requires)
      (went_so _ _ (λ number status is. c.in-Ok.ensures.asks ∙ ap (λ (l : Line). Ok l) is) _ _ c.apply_line.ensures.went);
  moves = λ e. absurd (cc);
  few = λ e. absurd (cc);
  accepted = λ e. absurd (cc);
  reads = reads_stopped _ _ _ _ _ c.does.ensures _ _ c.in-Err.stop _ c.in-Ok.ensures.asks;
  writes = λ sink. err_as c.in-Err.stop _ _ (c.in-Err.ensures.writes sink);
  made = λ sink. made_err_as _ _ c.in-Err.stop _ _ _ _ (c.in-Err.ensures.made sink);
  faults = c.in-Err.ensures.faults;
  sink_tells = c.apply_line.ensures.sink_tells;
}
