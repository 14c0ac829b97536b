-- The module of the example: authenticate knows the user `guest` and nobody else; every other
-- function returns SUCCESS.
use Rattle.std.specs.Prelude.{ℕ, Bool, false, List, Option, Some, None, codes, if◌then◌else◌}
use Rattle.std.specs.Str.{bytes_eq}
use Rattle.pam_base.specs.declared.code.Code.{Code}
use Rattle.pam_base.specs.declared.code.Code.TheVariants.{Success, UserUnknown}
use Rattle.pam_base.specs.declared.call.Func.{Func}
use Rattle.pam_base.specs.declared.call.Func.TheVariants.{Authenticate}
use Rattle.pam_room.specs.Module.{Plays}
use Rattle.mod_basic.specs.AtOnce.{plays_at_once}

abbrev pub is_guest : Option (List ℕ) → Bool
is_guest None = false
is_guest (Some user) = bytes_eq user (codes "guest")

abbrev pub guest_code : Func → Option (List ℕ) → Code
guest_code Authenticate user = if is_guest user then Success else UserUnknown
guest_code func user = Success

abbrev pub guest_plays : Plays
guest_plays = plays_at_once (λ call items caller. guest_code call.func items.user)
