-- The caller of the process is read before the user is asked for.
use Rattle.std.proofs.Common.{ℕ, List, Option, Some, None}
use Rattle.pam_base.specs.declared.code.Code.{Code}
use Rattle.pam_room.specs.State.{Scene}
use Rattle.module_acts.specs.Accounts.{Known, nothing_known}
use Rattle.module_acts.specs.Act.{Act, Acts, asks_user, unless_answered}
use Rattle.module_acts.specs.Returns.{Follows}
use Rattle.module_acts.specs.Steps.{sees_caller}

pub seen : ((act : ℕ → Act) (known : Known) (s : Scene) (code : Code) (new : Scene) → Acts (act s.process.caller) known s code new → Acts (sees_caller act) known s code new)
    → (first : Option Code) (decides : ℕ → List ℕ → Act) (s new : Scene) (code : Code) → Follows (unless_answered first (asks_user (decides s.process.caller))) s code new
    → Follows (unless_answered first (sees_caller (λ caller. asks_user (decides caller)))) s code new
seen seeing (Some answer) decides s new code h = h
seen seeing None decides s new code h = seeing (λ caller. asks_user (decides caller)) nothing_known s code new h
