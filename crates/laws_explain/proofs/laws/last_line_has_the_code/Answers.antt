use Rattle.laws_explain.proofs.CallTextFacts.{calls_end_with_their_code, fitting_calls_end_with_their_code}
use Rattle.laws_explain.proofs.RowStateFacts.{runs_end_with_their_code}
use Rattle.laws_explain.proofs.laws.last_line_has_the_code.Goals as goal

pub returns-clause-runs : goal.returns-clause-runs
returns-clause-runs c = runs_end_with_their_code

pub returns-clause-calls : goal.returns-clause-calls
returns-clause-calls c = calls_end_with_their_code

pub returns-clause-fitting : goal.returns-clause-fitting
returns-clause-fitting c = fitting_calls_end_with_their_code
