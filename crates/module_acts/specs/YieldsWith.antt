-- A step that may read account files (this project's own).
use Rattle.pam_base.specs.declared.code.Code.{Code}
use Rattle.pam_room.specs.State.{Scene}
use Rattle.module_acts.specs.Accounts.{Known}
use Rattle.module_acts.specs.Act.{Act, Acts}

-- A step gave this value, given what is known of the account files before and after it: the rest of
-- the definition, with this value, does what the whole does from here.
abbrev pub YieldsWith : {A : Type 0} → A → ((A → Act) → Act) → Known → Scene → Known → Scene → Type 0
YieldsWith {A} value step known old now new =
    (act : A → Act) (code : Code) (end : Scene)
    → Acts (act value) now new code end → Acts (step act) known old code end
