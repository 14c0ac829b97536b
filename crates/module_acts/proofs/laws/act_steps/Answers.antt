use Rattle.module_acts.proofs.FileStepFacts.{answering, drawing, playing, seeing, timing}
use Rattle.module_acts.proofs.laws.act_steps.Goals as goal

pub returns-clause-answers : goal.returns-clause-answers
returns-clause-answers c = answering

pub returns-clause-seeing : goal.returns-clause-seeing
returns-clause-seeing c = seeing

pub returns-clause-timing : goal.returns-clause-timing
returns-clause-timing c = timing

pub returns-clause-drawing : goal.returns-clause-drawing
returns-clause-drawing c = drawing

pub returns-clause-playing : goal.returns-clause-playing
returns-clause-playing c = playing
