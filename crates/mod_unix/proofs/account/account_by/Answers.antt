use Rattle.std.proofs.Common.{ap, ◌∙◌}
use Rattle.mod_unix.specs.Account.{account_by}
use Rattle.mod_unix.specs.Aging.{aged, day_of}
use Rattle.mod_unix.proofs.AccountCheckFacts.{judged}
use Rattle.mod_unix.proofs.account.account_by.Goals as goal

pub returns-in-Unknown : goal.returns-in-Unknown
unfolding account_by
returns-in-Unknown c = record { told = λ clock ticks room vault process act known code end rest. rw c.in-Unknown.is rest }

pub returns-in-Unavailable : goal.returns-in-Unavailable
unfolding account_by
returns-in-Unavailable c = record { told = λ clock ticks room vault process act known code end rest. rw c.in-Unavailable.is rest }

pub returns-in-Plain : goal.returns-in-Plain
unfolding account_by
returns-in-Plain c = record { told = λ clock ticks room vault process act known code end rest. rw c.in-Plain.is rest }

pub returns-in-Shadowed : goal.returns-in-Shadowed
unfolding account_by
returns-in-Shadowed c =
    let entry = c.in-Shadowed.entry in
    record {
      told = λ clock ticks room vault process act known code end rest.
          rw c.in-Shadowed.is (judged c.acting.ensures.clock entry act _ known _ code end
          (c.aged.ensures ∙ ap (λ d. aged d entry) (c.day_of.ensures ∙ ap day_of ticks)) rest);
    }
