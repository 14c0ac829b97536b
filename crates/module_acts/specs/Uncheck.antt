-- The calls in which a module that only checks the user checks nothing (pam_nologin(8), pam_shells(8), pam_securetty(8),
-- pam_wheel(8)).
use Rattle.std.specs.Prelude.{Option, Some, None}
use Rattle.pam_base.specs.declared.code.Code.{Code}
use Rattle.pam_base.specs.declared.code.Code.TheVariants.{ModuleUnknown}
use Rattle.pam_base.specs.declared.call.Func.{Func}
use Rattle.pam_base.specs.declared.call.Func.TheVariants.{Authenticate, SetCred, AcctMgmt, OpenSession, CloseSession, ChAuthTok}

-- the code of a call in which nothing is checked: setcred has its own, and the module has no pam_sm_open_session,
-- pam_sm_close_session and pam_sm_chauthtok
abbrev pub code_unchecked : Func → Code → Option Code
code_unchecked Authenticate setcred = None
code_unchecked AcctMgmt setcred = None
code_unchecked SetCred setcred = Some setcred
code_unchecked OpenSession setcred = Some ModuleUnknown
code_unchecked CloseSession setcred = Some ModuleUnknown
code_unchecked ChAuthTok setcred = Some ModuleUnknown
