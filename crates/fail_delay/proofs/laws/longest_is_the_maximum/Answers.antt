use Rattle.fail_delay.proofs.Longest.{no_shorter, one_of_them, counted}
use Rattle.fail_delay.proofs.laws.longest_is_the_maximum.Goals as goal

pub returns-clause-no_shorter : goal.returns-clause-no_shorter
returns-clause-no_shorter c = no_shorter

pub returns-clause-one_of_them : goal.returns-clause-one_of_them
returns-clause-one_of_them c = one_of_them

pub returns-clause-counted : goal.returns-clause-counted
returns-clause-counted c = counted
