use Rattle.std.proofs.Common.{ap, length, refl, subst, sym}
use Rattle.report_step.specs.dispatch_core.specs.Lines.{names_of}
use Rattle.report_step.specs.pam_library.specs.Slots.{NoneIsOpen}
use Rattle.cmd_run.specs.State.{RunState}
use Rattle.cmd_run.proofs.EndReportFacts.{one_stopped, one_unwritten, one_written, none_left}
use Rattle.cmd_run.proofs.closing.close_next.Goals as goal

pub returns-in_default : goal.returns-in_default
returns-in_default g c = record {
  told = λ sink. none_left _ _ _ _ _ _ c.in_default.ensures.none c.in_default.ensures.stays;
  fewer = λ e. absurd (cc);
  none_open = λ e. subst (λ (s : RunState). NoneIsOpen s.slots) (sym c.in_default.ensures.stays) c.in_default.ensures.none;
  went = c.end_next.ensures.went;
  faults = refl;
  sink_tells = refl;
}

pub returns-in-Err : goal.returns-in-Err
returns-in-Err g c = record {
  told = λ sink. one_unwritten _ _ _ _ _ _ _ c.in-Some.ensures.some;
  fewer = λ e. absurd (cc);
  none_open = λ e. absurd (cc);
  went = c.end_next.ensures.went;
  faults = refl;
  sink_tells = refl;
}

pub returns-in-Ok-write_report : goal.returns-in-Ok-write_report
returns-in-Ok-write_report g c = record {
  told = λ sink. one_written _ _ _ c.in-Some.number _ _ _ _ _ _ _ c.in-Some.ensures.some c.in-Ok.ensures (ap names_of c.end_next.ensures.went.players)
      (ap length c.filed.ensures)
      c.in-Ok-write_report.field-0 (c.in-Ok-write_report.ensures.told sink);
  fewer = λ e. c.in-Some.ensures.some.fewer;
  none_open = λ e. absurd (cc);
  went = c.end_next.ensures.went;
  faults = c.in-Ok-write_report.ensures.faults;
  sink_tells = c.write_report.ensures.sink_tells;
}

pub returns-in-Err-write_report : goal.returns-in-Err-write_report
returns-in-Err-write_report g c = record {
  told = λ sink. one_stopped _ _ _ c.in-Some.number _ _ _ _ _ _ _ c.in-Some.ensures.some c.in-Ok.ensures (ap names_of c.end_next.ensures.went.players)
      (ap length c.filed.ensures)
      c.in-Err-write_report.stop (c.in-Err-write_report.ensures.told sink);
  fewer = λ e. absurd (cc);
  none_open = λ e. absurd (cc);
  went = c.end_next.ensures.went;
  faults = c.in-Err-write_report.ensures.faults;
  sink_tells = c.write_report.ensures.sink_tells;
}
