-- What an account check returns, given the day.
use Rattle.std.proofs.Common.{◌≡◌}
use Rattle.pam_base.specs.declared.code.Code.{Code}
use Rattle.pam_outside.specs.Time.{Time, time_of}
use Rattle.pam_room.specs.State.{Scene}
use Rattle.account_db.specs.declared.shadow.Shadow.{Shadow}
use Rattle.module_acts.specs.Act.{Act, Acts}
use Rattle.module_acts.specs.Steps.{sees_clock}
use Rattle.module_acts.specs.Accounts.{Known}
use Rattle.mod_unix.specs.Aging.{aged, day_of}

same_code : (act : Code → Act) (answer is : Code) (known : Known) (s : Scene) (code : Code) (end : Scene) → answer ≡ is → Acts (act answer) known s code end → Acts (act is) known s code end
same_code act answer is known s code end e rest = rw (← e) rest

pub judged : ((act : Time → Act) (known : Known) (s : Scene) (code : Code) (new : Scene) → Acts (act (time_of s.clock)) known s code new → Acts (sees_clock act) known s code new)
    → (entry : Shadow) (act : Code → Act) (answer : Code) (known : Known) (s : Scene) (code : Code) (end : Scene) → answer ≡ aged (day_of s.clock.moment) entry → Acts (act answer) known s code end
    → Acts (sees_clock (λ clock. act (aged (day_of clock.moment) entry))) known s code end
judged seeing entry act answer known s code end e rest =
    seeing (λ clock. act (aged (day_of clock.moment) entry)) known s code end (same_code act answer (aged (day_of s.clock.moment) entry) known s code end e rest)
