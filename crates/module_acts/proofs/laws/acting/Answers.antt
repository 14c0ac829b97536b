use Rattle.module_acts.proofs.TransactionStepFacts.{seeing_caller, seeing_clock, seeing_data}
use Rattle.module_acts.proofs.laws.acting.Goals as goal

pub returns-clause-data : goal.returns-clause-data
returns-clause-data c = λ act known s code new a. seeing_data known s code new act a

pub returns-clause-clock : goal.returns-clause-clock
returns-clause-clock c = λ act known s code new a. seeing_clock known s code new act a

pub returns-clause-caller : goal.returns-clause-caller
returns-clause-caller c = λ act known s code new a. seeing_caller known s code new act a
