-- What is decided for the user is what the module does.
use Rattle.std.proofs.Common.{◌≡◌, Bool, true, false, List, ℕ, Option, Some, None, refl}
use Rattle.pam_base.specs.declared.code.Code.{Code}
use Rattle.std.specs.Option.{option_or}
use Rattle.module_acts.specs.Act.{Act, asks_user, unless_answered}
use Rattle.mod_lists.specs.ListSettings.{PlainSettings}
use Rattle.mod_lists.specs.Listfile.{checks_list, checks_listed_user, error_if_none}
use Rattle.mod_lists.specs.SucceedIf.{unless_use_uid, conditions_in, meets_all, unsupported}

pub by_list : (first : Option Code) (error : Code) (args : List (List ℕ)) (settings : Option PlainSettings)
    → unless_answered (option_or first (error_if_none error settings)) (asks_user (λ user. checks_listed_user error args user settings)) ≡ unless_answered first (checks_list error args settings)
by_list (Some code) error args settings = refl
by_list None error args None = refl
by_list None error args (Some s) = refl

pub by_conditions : (first : Option Code) (uses : Bool) (args : List (List ℕ))
    → unless_answered (option_or first (unsupported uses)) (asks_user (meets_all (conditions_in args))) ≡ unless_answered first (unless_use_uid uses args)
by_conditions (Some code) uses args = refl
by_conditions None true args = refl
by_conditions None false args = refl
