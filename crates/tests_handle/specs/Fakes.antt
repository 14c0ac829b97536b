-- The meanings of the modules of the tests.
use Rattle.std.specs.Prelude.{if◌then◌else◌}
use Rattle.pam_base.specs.declared.code.Code.{Code}
use Rattle.pam_base.specs.declared.code.Code.TheVariants as returns
use Rattle.pam_room.specs.Call.{PlainCall, has_flag}

-- it succeeds only with PAM_ESTABLISH_CRED
abbrev pub establisher_code : PlainCall → Code
establisher_code call = if has_flag call.flags 2 then returns.Success else returns.CredErr
