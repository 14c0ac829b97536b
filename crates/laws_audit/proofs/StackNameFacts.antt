-- A call that runs a stack is a function with flags, and each of these is one call.
use Rattle.std.proofs.Common.{◌≡◌, ℕ, Option, Some, None, refl, ap}
use Rattle.pam_base.specs.declared.call.AppCall.{AppCall}
use Rattle.pam_base.specs.declared.call.AppCall.TheVariants as calls
use Rattle.pam_base.specs.declared.call.Func.{Func}
use Rattle.pam_base.specs.declared.call.Func.TheVariants as funcs
use Rattle.pam_base.specs.Call.{stack_call}
use Rattle.laws_audit.specs.StackCalls.{AreMadeAsSeen, AreSeenAsMade}

pub seen_as_made : AreSeenAsMade
seen_as_made funcs.Authenticate flags = refl
seen_as_made funcs.SetCred flags = refl
seen_as_made funcs.AcctMgmt flags = refl
seen_as_made funcs.OpenSession flags = refl
seen_as_made funcs.CloseSession flags = refl
seen_as_made funcs.ChAuthTok flags = refl

-- the call of a function with flags, or another one
abbrev made_of : AppCall → Option (Func × ℕ) → AppCall
made_of call None = call
made_of call (Some p) = stack_call p.0 p.1

pub made_as_seen : AreMadeAsSeen
made_as_seen (calls.Authenticate f) func flags e = ap (made_of (calls.Authenticate f)) e
made_as_seen (calls.SetCred f) func flags e = ap (made_of (calls.SetCred f)) e
made_as_seen (calls.AcctMgmt f) func flags e = ap (made_of (calls.AcctMgmt f)) e
made_as_seen (calls.OpenSession f) func flags e = ap (made_of (calls.OpenSession f)) e
made_as_seen (calls.CloseSession f) func flags e = ap (made_of (calls.CloseSession f)) e
made_as_seen (calls.ChAuthTok f) func flags e = ap (made_of (calls.ChAuthTok f)) e
made_as_seen call func flags e = absurd (cc)
