use Rattle.std.proofs.Common.{◌≡◌, Some, slice_index_or, sym, ◌∙◌, rules}
use Rattle.pam_wire.specs.Kind.{call_of_number}
use Rattle.pam_wire.proofs.ValidStepFacts.{call_fits}
use Rattle.pam_wire.proofs.StepAllocationFacts.{has_step, whichever}
use Rattle.pam_wire.proofs.step.step_in.Goals as goal

pub returns-in-Some-2-clause-fit : goal.returns-in-Some-2-clause-fit
returns-in-Some-2-clause-fit c = call_fits c.in-Some.kind _ _ (sym c.in_ok-call.ensures.call ∙ c.in-Some-2.is)

pub returns-in_err-call-clause-memory : goal.returns-in_err-call-clause-memory
returns-in_err-call-clause-memory c =
    let kind : call_of_number (slice_index_or c.args.body.now 1 0) ≡ Some c.in-Some.kind = search rules in
    whichever _ _ (has_step c.args.body.now c.in-Some.kind c.in-len2-up.len_at_least kind c.in_err-call.ensures.memory)
