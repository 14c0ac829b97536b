-- The stack call that a call is.
use Rattle.std.specs.Prelude.{ℕ, Option, Some, None}
use Rattle.pam_base.specs.declared.call.Func.{Func}
use Rattle.pam_base.specs.declared.call.Func.TheVariants as funcs
use Rattle.pam_base.specs.declared.call.AppCall.{AppCall}
use Rattle.pam_base.specs.declared.call.AppCall.TheVariants as calls

-- the function and the flags of a call that runs a stack
abbrev pub stack_of : AppCall → Option (Func × ℕ)
stack_of (calls.Authenticate flags) = Some (funcs.Authenticate, flags)
stack_of (calls.SetCred flags) = Some (funcs.SetCred, flags)
stack_of (calls.AcctMgmt flags) = Some (funcs.AcctMgmt, flags)
stack_of (calls.OpenSession flags) = Some (funcs.OpenSession, flags)
stack_of (calls.CloseSession flags) = Some (funcs.CloseSession, flags)
stack_of (calls.ChAuthTok flags) = Some (funcs.ChAuthTok, flags)
stack_of call = None
