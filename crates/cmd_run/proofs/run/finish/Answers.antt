use Rattle.std.proofs.Common.{◌∙◌, sym}
use Rattle.cmd_run.proofs.RunEndFacts.{last_cut, last_unwritten, last_written, nothing_last, stopped_closing}
use Rattle.cmd_run.proofs.run.finish.Goals as goal

pub returns-in-Err : goal.returns-in-Err
returns-in-Err g c = record {
  told = λ sink. stopped_closing _ _ _ _ _ c.in-Err.stop _ _ _ _ (rw c.ending_status.ensures at (c.in-Err.ensures.told sink));
  none_open = tt;
  went = rw c.ending_status.ensures at c.close_open.ensures.went;
  faults = c.in-Err.ensures.faults;
  sink_tells = c.close_open.ensures.sink_tells;
}

pub returns-in-Err-last_report : goal.returns-in-Err-last_report
returns-in-Err-last_report g c = record {
  told = λ sink.
      last_unwritten _ _ _ _ _ _ _ _ _ c.in-Ok.field-0 (rw c.ending_status.ensures at (c.in-Ok.ensures.told sink)) c.in-Ok.ensures.none_open
      c.in-Err-last_report.ensures.err;
  none_open = tt;
  went = rw c.ending_status.ensures at c.close_open.ensures.went;
  faults = c.in-Ok.ensures.faults;
  sink_tells = c.close_open.ensures.sink_tells;
}

pub returns-in-Ok-None : goal.returns-in-Ok-None
returns-in-Ok-None g c = record {
  told = λ sink.
      nothing_last _ _ _ _ _ _ _ _ _ c.in-Ok.field-0 _ (rw c.ending_status.ensures at (c.in-Ok.ensures.told sink))
      (sym c.in-Ok-None.ensures.ok ∙ c.in-Ok-None.field-0-is);
  none_open = c.in-Ok.ensures.none_open;
  went = rw c.ending_status.ensures at c.close_open.ensures.went;
  faults = c.in-Ok.ensures.faults;
  sink_tells = c.close_open.ensures.sink_tells;
}

pub returns-in-Ok-write_all : goal.returns-in-Ok-write_all
returns-in-Ok-write_all g c = record {
  told = λ sink.
      last_written _ _ _ _ _ _ _ _ _ _ c.in-Ok.field-0 (rw c.ending_status.ensures at (c.in-Ok.ensures.told sink)) c.in-Ok-write_all.field-0 _
      (sym c.in-Ok-Some.ensures.ok ∙ c.in-Ok-Some.field-0-is)
      (rw c.bytes.ensures at (c.in-Ok-write_all.ensures.told (c.close_open.ensures.sink_tells ∙ sink)));
  none_open = c.in-Ok.ensures.none_open;
  went = rw c.ending_status.ensures at c.close_open.ensures.went;
  faults = c.in-Ok-write_all.ensures.no_fault ∙ c.in-Ok.ensures.faults;
  sink_tells = c.write_all.ensures.tells ∙ c.close_open.ensures.sink_tells;
}

pub returns : goal.returns
returns g c = record {
  told = λ sink.
      last_cut _ _ _ _ _ _ _ _ _ _ c.in-Ok.field-0 (rw c.ending_status.ensures at (c.in-Ok.ensures.told sink)) c.in-Err-write_all.field-0 _
      c.in-Ok.ensures.none_open (sym c.in-Ok-Some.ensures.ok ∙ c.in-Ok-Some.field-0-is)
      (rw c.bytes.ensures at (c.in-Err-write_all.ensures.told (c.close_open.ensures.sink_tells ∙ sink)));
  none_open = tt;
  went = rw c.ending_status.ensures at c.close_open.ensures.went;
  faults = rw c.in-Ok.ensures.faults at c.in-Err-write_all.ensures.failed;
  sink_tells = c.write_all.ensures.tells ∙ c.close_open.ensures.sink_tells;
}
