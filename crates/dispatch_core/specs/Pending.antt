-- An incomplete stack call, and what others return meanwhile (this project's own).
use Rattle.std.specs.Prelude.{Bool, true, false, not, Option, Some, None, List, []}
use Rattle.pam_base.specs.declared.code.Code.{Code}
use Rattle.pam_base.specs.declared.call.Func.{Func}
use Rattle.pam_base.specs.declared.call.Func.TheVariants.{Authenticate, SetCred, AcctMgmt, OpenSession, CloseSession, ChAuthTok}
use Rattle.handler_chain.specs.Route.{KeptAnswers}

-- an incomplete stack call: its function, the codes in the incomplete pass, and if that is the second pass of
-- chauthtok, the codes that the first one cached
pub record Pending : Type 0 where
  pub func : Func
  pub past : List Code
  pub first : Option KeptAnswers

abbrev pub same_func : Func → Func → Bool
same_func Authenticate Authenticate = true
same_func SetCred SetCred = true
same_func AcctMgmt AcctMgmt = true
same_func OpenSession OpenSession = true
same_func CloseSession CloseSession = true
same_func ChAuthTok ChAuthTok = true
same_func a b = false

-- the function of the pending call
abbrev pub pending_func : Option Pending → Option Func
pending_func None = None
pending_func (Some p) = Some p.func

-- the codes in the pending call, and those of the first pass of chauthtok; none if nothing is pending
abbrev pub past_in : Option Pending → List Code
past_in None = []
past_in (Some p) = p.past

abbrev pub first_in : Option Pending → Option KeptAnswers
first_in None = None
first_in (Some p) = p.first

-- whether a call of another function than this is pending
abbrev pub is_other_pending : Option Pending → Func → Bool
is_other_pending None func = false
is_other_pending (Some p) func = not (same_func p.func func)

-- what is pending after a pass: the call, if the pass is incomplete
abbrev pub pending_after : Func → Option KeptAnswers → Option (List Code) → Option Pending
pending_after func first None = None
pending_after func first (Some past) = Some (record { func = func; past = past; first = first })
