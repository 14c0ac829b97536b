-- That a call that runs a stack is a function with flags, and each of these is one call (this project's own).
use Rattle.std.specs.Prelude.{◌≡◌, ℕ, Some}
use Rattle.pam_base.specs.declared.call.AppCall.{AppCall}
use Rattle.pam_base.specs.declared.call.Func.{Func}
use Rattle.pam_base.specs.Call.{stack_call}
use Rattle.pam_library.specs.StackOf.{stack_of}

-- the call that runs a function with flags is seen as these
abbrev pub AreSeenAsMade : Type 0
AreSeenAsMade = (func : Func) (flags : ℕ) → stack_of (stack_call func flags) ≡ Some (func, flags)

-- and no other call is
abbrev pub AreMadeAsSeen : Type 0
AreMadeAsSeen =
    (call : AppCall) (func : Func) (flags : ℕ) → stack_of call ≡ Some (func, flags) →
    call ≡ stack_call func flags
