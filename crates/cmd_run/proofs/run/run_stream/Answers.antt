use Rattle.std.proofs.Common.{◌∙◌, Ok, Err, refl, ap, arith}
use Rattle.pam_base.specs.Code.{number_of}
use Rattle.cmd_run.proofs.StreamBytesFacts.{script_stopped}
use Rattle.cmd_run.proofs.Filed.{no_data}
use Rattle.cmd_run.proofs.RunEndFacts.{run_written, runs_out, stops_early, stops_late}
use Rattle.cmd_run.proofs.RunPartFacts.{went_on, went_so}
use Rattle.cmd_run.proofs.run.run_stream.Goals as goal

pub returns-in-Err-clause-ran : goal.returns-in-Err-clause-ran
returns-in-Err-clause-ran g c = record {
  told = λ still delay is told source sink.
      c.ends.ensures.told _ (Err c.in-Err.stop) _ _ _ _ _ _
      (stops_early _ _ _ _ _ _ _ _ _ _ _ c.in-Err.stop _ _ _ _ (c.in-Err.ensures.serves.told still delay is told source sink)
      (c.in-Err.ensures.serves.reads source).takes
      (rw (c.serve_items.ensures.serves.went.players, c.stop_status.ensures) at c.close_silently.ensures.closed)
      (rw (c.serve_items.ensures.serves.went.players, c.stop_status.ensures) at c.close_silently.ensures.went.proceeds));
  complete = λ source. c.ends.ensures.complete.stopped c.in-Err.stop _ _ _ _ _ c.in-Err.ensures.serves.sink_faults;
  reads = λ source. c.ends.ensures.read.whole (Err c.in-Err.stop) _ _ _ (c.in-Err.ensures.serves.reads source);
  writes = λ sink. script_stopped c.in-Err.stop _ _ (c.in-Err.ensures.serves.writes sink);
  none_open = c.close_silently.ensures.none_open;
  filed = c.all_are_filed.ensures 17 _ _ c.close_silently.ensures.went.sound.held.once (λ h lt. no_data _ c.close_silently.ensures.none_open h);
  went = went_on _ _ _ _ (went_so _ _ (c.ends.ensures.ends.by_item _ _) _ _ c.serve_items.ensures.serves.went)
      (went_so _ _ (λ number status is. c.ends.ensures.ends.by_stop _ _ c.in-Err.stop number status (is ∙ ap number_of c.stop_status.ensures)) _ _
      c.close_silently.ensures.went);
  source_faults = tt;
  sink_faults = c.in-Err.ensures.serves.sink_faults;
  source_tells = c.serve_items.ensures.serves.source_tells;
  sink_tells = c.serve_items.ensures.serves.sink_tells;
}

pub returns-in-Ok-finish-clause-ran : goal.returns-in-Ok-finish-clause-ran
returns-in-Ok-finish-clause-ran g c = record {
  told = λ still delay is told source sink.
      c.ends.ensures.told _ (Ok c.in-Ok.ending) _ _ _ _ _ _
      (runs_out _ _ _ _ _ _ _ _ _ _ _ c.in-Ok.ending _ _ _ _ _ (c.in-Ok.ensures.serves.told still delay is told source sink)
      (c.in-Ok.ensures.serves.reads source).takes
      (omega (arith, c.serve_items.ensures.serves.went.sound.placed.sixteen)) c.in-Ok-finish.field-0
      (rw c.serve_items.ensures.serves.went.players at (c.in-Ok-finish.ensures.told (c.serve_items.ensures.serves.sink_tells ∙ sink))));
  complete = λ source. c.ends.ensures.complete.ended c.in-Ok.ending _ _ _ _ _ _ _ (c.in-Ok.ensures.serves.reads source) c.in-Ok.ensures.serves.source_faults;
  reads = λ source. c.ends.ensures.read.whole (Ok c.in-Ok.ending) _ _ _ (c.in-Ok.ensures.serves.reads source);
  writes = λ sink. run_written _ _ _ c.in-Ok.ending _ (Ok c.in-Ok-finish.field-0) _ _ _ _ _ (c.in-Ok.ensures.serves.writes sink)
      (c.in-Ok-finish.ensures.told (c.serve_items.ensures.serves.sink_tells ∙ sink));
  none_open = c.in-Ok-finish.ensures.none_open;
  filed = c.all_are_filed.ensures 17 _ _ c.finish.ensures.went.sound.held.once (λ h lt. no_data _ c.in-Ok-finish.ensures.none_open h);
  went = went_on _ _ _ _ (went_so _ _ (c.ends.ensures.ends.by_item _ _) _ _ c.serve_items.ensures.serves.went)
      (went_so _ _ (c.ends.ensures.ends.by_ending _ _ c.in-Ok.ending) _ _ c.finish.ensures.went);
  source_faults = c.in-Ok.ensures.serves.source_faults;
  sink_faults = c.in-Ok-finish.ensures.faults ∙ c.in-Ok.ensures.serves.sink_faults;
  source_tells = c.serve_items.ensures.serves.source_tells;
  sink_tells = c.finish.ensures.sink_tells ∙ c.serve_items.ensures.serves.sink_tells;
}

pub returns-in-Err-finish-clause-ran : goal.returns-in-Err-finish-clause-ran
returns-in-Err-finish-clause-ran g c = record {
  told = λ still delay is told source sink.
      c.ends.ensures.told _ (Err c.in-Err-finish.stop) _ _ _ _ _ _
      (stops_late _ _ _ _ _ _ _ _ _ _ _ c.in-Err-finish.stop c.in-Ok.ending _ _ _ _ _ _ (c.in-Ok.ensures.serves.told still delay is told source sink)
      (c.in-Ok.ensures.serves.reads source).takes
      (rw c.serve_items.ensures.serves.went.players at (c.in-Err-finish.ensures.told (c.serve_items.ensures.serves.sink_tells ∙ sink)))
      (rw c.serve_items.ensures.serves.went.players at c.finish.ensures.went.proceeds)
      (rw (c.finish.ensures.went.players, c.serve_items.ensures.serves.went.players, c.stop_status-in-Err-finish.ensures) at
      c.close_silently-in-Err-finish.ensures.closed)
      (rw (c.finish.ensures.went.players, c.serve_items.ensures.serves.went.players, c.stop_status-in-Err-finish.ensures) at
      c.close_silently-in-Err-finish.ensures.went.proceeds));
  complete = λ source. c.ends.ensures.complete.stopped c.in-Err-finish.stop _ _ _ _ _ (rw c.in-Ok.ensures.serves.sink_faults at c.in-Err-finish.ensures.faults);
  reads = λ source. c.ends.ensures.read.left c.in-Ok.ending c.in-Err-finish.stop _ _ _ (c.in-Ok.ensures.serves.reads source);
  writes = λ sink. run_written _ _ _ c.in-Ok.ending _ (Err c.in-Err-finish.stop) _ _ _ _ _ (c.in-Ok.ensures.serves.writes sink)
      (c.in-Err-finish.ensures.told (c.serve_items.ensures.serves.sink_tells ∙ sink));
  none_open = c.close_silently-in-Err-finish.ensures.none_open;
  filed = c.all_are_filed.ensures 17 _ _ c.close_silently-in-Err-finish.ensures.went.sound.held.once
      (λ h lt. no_data _ c.close_silently-in-Err-finish.ensures.none_open h);
  went = went_on _ _ _ _
      (went_on _ _ _ _ (went_so _ _ (c.ends.ensures.ends.by_item _ _) _ _ c.serve_items.ensures.serves.went)
      (went_so _ _ (c.ends.ensures.ends.by_ending _ _ c.in-Ok.ending) _ _ c.finish.ensures.went))
      (went_so _ _ (λ number status is. c.ends.ensures.ends.by_stop _ _ c.in-Err-finish.stop number status
      (is ∙ ap number_of c.stop_status-in-Err-finish.ensures)) _ _ c.close_silently-in-Err-finish.ensures.went);
  source_faults = tt;
  sink_faults = rw c.in-Ok.ensures.serves.sink_faults at c.in-Err-finish.ensures.faults;
  source_tells = c.serve_items.ensures.serves.source_tells;
  sink_tells = c.finish.ensures.sink_tells ∙ c.serve_items.ensures.serves.sink_tells;
}

pub returns-in-Err-clause-reports : goal.returns-in-Err-clause-reports
returns-in-Err-clause-reports g c = λ sink. record {
  served = Err c.in-Err.stop;
  middle = _;
  between = _;
  calls = c.in-Err.ensures.made sink;
  goes_on = (refl, refl);
}

pub returns-in-Ok-finish-clause-reports : goal.returns-in-Ok-finish-clause-reports
returns-in-Ok-finish-clause-reports g c = λ sink. record {
  served = Ok c.in-Ok.ending;
  middle = _;
  between = _;
  calls = c.in-Ok.ensures.made sink;
  goes_on = record {
    items = _;
    ended = Ok c.in-Ok-finish.field-0;
    last = _;
    end = _;
    slots_are = refl;
    result_is = refl;
    ends = rw c.serve_items.ensures.serves.went.players at (c.in-Ok-finish.ensures.told (c.serve_items.ensures.serves.sink_tells ∙ sink));
  };
}

pub returns-in-Err-finish-clause-reports : goal.returns-in-Err-finish-clause-reports
returns-in-Err-finish-clause-reports g c = λ sink. record {
  served = Ok c.in-Ok.ending;
  middle = _;
  between = _;
  calls = c.in-Ok.ensures.made sink;
  goes_on = record {
    items = _;
    ended = Err c.in-Err-finish.stop;
    last = _;
    end = _;
    slots_are = refl;
    result_is = refl;
    ends = rw c.serve_items.ensures.serves.went.players at (c.in-Err-finish.ensures.told (c.serve_items.ensures.serves.sink_tells ∙ sink));
  };
}
