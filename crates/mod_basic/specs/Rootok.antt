-- pam_rootok(8): whether the calling process is root's.
use Rattle.std.specs.Prelude.{ℕ, ◌==◌, if◌then◌else◌}
use Rattle.pam_base.specs.declared.code.Code.{Code}
use Rattle.pam_base.specs.declared.code.Code.TheVariants.{Success, AuthErr, ModuleUnknown}
use Rattle.pam_base.specs.declared.call.Func.{Func}
use Rattle.pam_base.specs.declared.call.Func.TheVariants.{Authenticate, SetCred, AcctMgmt, OpenSession, CloseSession, ChAuthTok}
use Rattle.pam_room.specs.Module.{Plays}
use Rattle.mod_basic.specs.AtOnce.{plays_at_once}

abbrev pub is_root : ℕ → Code
is_root caller = if caller == 0 then Success else AuthErr

-- it has no session functions
abbrev pub rootok_code : Func → ℕ → Code
rootok_code Authenticate caller = is_root caller
rootok_code SetCred caller = Success
rootok_code AcctMgmt caller = is_root caller
rootok_code OpenSession caller = ModuleUnknown
rootok_code CloseSession caller = ModuleUnknown
rootok_code ChAuthTok caller = is_root caller

abbrev pub rootok_plays : Plays
rootok_plays = plays_at_once (λ call items caller. rootok_code call.func caller)
