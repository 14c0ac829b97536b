use Rattle.std.proofs.Common.{Ok, ap, refl, ◌∙◌}
use Rattle.cmd_run.proofs.RunPartFacts.{went_nowhere, went_on}
use Rattle.cmd_run.proofs.EndReportFacts.{no_more, none_yet, one_more, stops_in_one}
use Rattle.cmd_run.proofs.closing.close_open.Goals as goal

pub loop-stop-init : goal.loop-stop-init
loop-stop-init g c = record {
  went = went_nowhere _ _ c.requires;
  sink_tells = refl;
  told = λ sink. none_yet _ _ _ _ _;
  faults = refl;
}

pub loop-stop-preserved : goal.loop-stop-preserved
loop-stop-preserved g c =
    let was = c.loop-stop.invariant in
    record {
      went = went_on _ _ _ _ was.went c.close_next.ensures.went;
      sink_tells = c.close_next.ensures.sink_tells ∙ was.sink_tells;
      told = λ sink.
          let next = rw c.in-Ok-true.field-0-test at c.in-Ok-true.ensures.told in
          one_more _ _ _ _ _ _ _ _ _ (was.told sink) (rw was.went.players at (next (was.sink_tells ∙ sink)));
      faults = c.in-Ok-true.ensures.faults ∙ was.faults;
    }

pub returns-in-Ok-false : goal.returns-in-Ok-false
returns-in-Ok-false g c = record {
  told = λ sink.
      let was = c.loop-stop.invariant in
      let next = rw c.in-Ok-false.field-0-test at c.in-Ok-false.ensures.told in
      no_more _ _ _ _ _ _ _ _ _ (was.told sink) tt (rw was.went.players at (next (was.sink_tells ∙ sink)));
  none_open = c.close_next.ensures.none_open (c.in-Ok-false.is ∙ ap Ok c.in-Ok-false.field-0-test);
  went = went_on _ _ _ _ c.loop-stop.invariant.went c.close_next.ensures.went;
  faults = c.in-Ok-false.ensures.faults ∙ c.loop-stop.invariant.faults;
  sink_tells = c.close_next.ensures.sink_tells ∙ c.loop-stop.invariant.sink_tells;
}

pub returns-in-Err : goal.returns-in-Err
returns-in-Err g c = record {
  told = λ sink.
      let was = c.loop-stop.invariant in
      stops_in_one _ _ _ _ _ _ _ _ _ (was.told sink) c.in-Err.stop (rw was.went.players at (c.in-Err.ensures.told (was.sink_tells ∙ sink)));
  none_open = tt;
  went = went_on _ _ _ _ c.loop-stop.invariant.went c.close_next.ensures.went;
  faults = rw c.loop-stop.invariant.faults at c.in-Err.ensures.faults;
  sink_tells = c.close_next.ensures.sink_tells ∙ c.loop-stop.invariant.sink_tells;
}
