-- When a module that refuses users succeeds (pam_deny(8), pam_nologin(8), pam_rootok(8),
-- pam_wheel(8); the statements are this project's own).
use Rattle.std.specs.Prelude.{◌≡◌, ◌≢◌, List, true, codes}
use Rattle.pam_base.specs.declared.code.Code.TheVariants.{Success}
use Rattle.pam_base.specs.declared.call.Func.TheVariants.{SetCred}
use Rattle.pam_room.specs.Call.{PlainCall}
use Rattle.pam_room.specs.Module.{NamedData, SeenRoom, Sight}
use Rattle.module_acts.specs.Arguments.{has_argument}
use Rattle.mod_basic.specs.Deny.{deny_plays}
use Rattle.mod_basic.specs.Rootok.{rootok_plays}
use Rattle.mod_lists.specs.Nologin.{nologin_plays}
use Rattle.mod_history.specs.Wheel.{wheel_plays}

-- no call of pam_deny succeeds
abbrev pub DenyNeverSucceeds : Type 0
DenyNeverSucceeds =
    (call : PlainCall) (room : SeenRoom) (held : List NamedData) (sight : Sight)
    → (deny_plays call room held sight).code ≡ Success → ⊥

-- a call of pam_nologin succeeds only with the argument `successok`
abbrev pub NologinSucceedsIfTold : Type 0
NologinSucceedsIfTold =
    (call : PlainCall) (room : SeenRoom) (held : List NamedData) (sight : Sight)
    → (nologin_plays call room held sight).code ≡ Success
    → has_argument (codes "successok") call.args ≡ true

-- a call of pam_rootok other than setcred succeeds only for the caller 0
abbrev pub RootokSucceedsForRoot : Type 0
RootokSucceedsForRoot =
    (call : PlainCall) (room : SeenRoom) (held : List NamedData) (sight : Sight)
    → call.func ≢ SetCred → (rootok_plays call room held sight).code ≡ Success → sight.caller ≡ 0

-- a call of pam_wheel other than setcred succeeds only with the argument `trust`
abbrev pub WheelSucceedsIfTrusting : Type 0
WheelSucceedsIfTrusting =
    (call : PlainCall) (room : SeenRoom) (held : List NamedData) (sight : Sight)
    → call.func ≢ SetCred → (wheel_plays call room held sight).code ≡ Success
    → has_argument (codes "trust") call.args ≡ true
