use Rattle.std.proofs.Common.{refl, subst, sym, ◌∙◌}
use Rattle.report_step.specs.pam_library.specs.Slots.{NoneIsOpen}
use Rattle.cmd_run.specs.State.{RunState}
use Rattle.cmd_run.proofs.RunPartFacts.{went_nowhere, went_on}
use Rattle.cmd_run.proofs.Lowest.{none_left, one_then}
use Rattle.cmd_run.proofs.closing.close_silently.Goals as goal

pub loop-number-init : goal.loop-number-init
loop-number-init g c = record { went = went_nowhere _ _ c.requires; left = refl }

pub loop-number-preserved : goal.loop-number-preserved
loop-number-preserved g c =
    let was = c.loop-number.invariant in
    record {
      went = went_on _ _ _ _ was.went c.end_next.ensures.went;
      left = was.left ∙ one_then _ _ _ _ _ (rw was.went.players at c.in-Some.ensures.some);
    }

pub returns : goal.returns
returns g c = record {
  closed = rw c.in_default.ensures.stays (sym (c.loop-number.invariant.left ∙ none_left _ _ _ _ c.in_default.ensures.none));
  none_open = subst (λ (s : RunState). NoneIsOpen s.slots) (sym c.in_default.ensures.stays) c.in_default.ensures.none;
  went = went_on _ _ _ _ c.loop-number.invariant.went c.end_next.ensures.went;
}
