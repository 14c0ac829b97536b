use Rattle.std.proofs.Common.{refl, Bool}
use denote.Param.Object.{read_made}
use Rattle.pam_service.proofs.run.OwnLists.{own-2, at-2-1}
use Rattle.pam_service.proofs.run.Goals as goal

pub serve_caller-requires-clause-clock : goal.serve_caller-requires-clause-clock
serve_caller-requires-clause-clock c = read_made own-2 _ at-2-1 refl Bool (λ j w. j.1.clock_tells w) _ _ _ c.into_dyn_box-in_ok-new-2.ensures.1
