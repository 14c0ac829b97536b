use Rattle.pam_library.proofs.step.step_closed.Goals as goal

pub returns-in-Start-clause-called : goal.returns-in-Start-clause-called
returns-in-Start-clause-called g c = rw c.in-Start.is c.start.ensures.called
