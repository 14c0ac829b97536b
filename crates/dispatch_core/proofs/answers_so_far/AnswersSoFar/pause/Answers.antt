use Rattle.std.proofs.Common.{List, Some, ◌∙◌, ap}
use Rattle.pam_base.specs.declared.code.Code.{Code}
use Rattle.dispatch_core.proofs.GivenCodeFacts.{all_taken}
use Rattle.dispatch_core.proofs.answers_so_far.AnswersSoFar.pause.Goals as goal

pub returns : goal.returns
returns c = c.of.ensures ∙ ap (λ (answers : List Code). Some answers) (all_taken _ _ _ _ c.self.view_is c.requires)
