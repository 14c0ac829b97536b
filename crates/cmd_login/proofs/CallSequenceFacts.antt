-- Calls one after another, with real objects too.
use Rattle.std.proofs.Common.{◌≡◌, ℕ, List, Option, Some, None, Result, Ok, Err, IfOk, inl, inr, refl, sym, ap, ◌∙◌}
use Rattle.pam_base.specs.declared.code.Code.{Code}
use Rattle.pam_base.specs.declared.call.AppCall.{AppCall}
use Rattle.pam_base.specs.declared.call.AppCall.TheVariants as calls
use Rattle.pam_base.specs.declared.call.Func.{Func}
use Rattle.pam_base.specs.declared.call.Func.TheVariants as funcs
use Rattle.pam_base.specs.declared.call.Step.{Step}
use Rattle.pam_base.specs.Call.{stack_call}
use Rattle.pam_base.specs.Code.{number_of}
use Rattle.record_reader.specs.declared.ending.Stop.{Stop}
use Rattle.cmd_run.specs.Ends.{IsEndStep}
use Rattle.cmd_login.specs.declared.attempt.Verdict.{Verdict}
use Rattle.cmd_login.specs.declared.attempt.Verdict.TheVariants as verdicts
use Rattle.cmd_login.specs.declared.calls.LoginCall.{LoginCall}
use Rattle.cmd_login.specs.Calls.{call_of}
use Rattle.cmd_login.specs.Ends.{IsDenial, IsEndOfLogin, IsEndWith, IsNoEnd, closing_code}
use Rattle.cmd_login.specs.Login.{end_call, end_code, verdict_by}

same_call : (call other : AppCall) (n m : ℕ) → ◌≡◌ {A = Step} (record { number = n; call = call }) (record { number = m; call = other }) → call ≡ other
same_call call other n m e = ap (λ (s : Step). s.call) e

not_end : (func : Func) (flags status : ℕ) → stack_call func flags ≡ calls.End status → ⊥
not_end funcs.Authenticate flags status e = cc
not_end funcs.SetCred flags status e = cc
not_end funcs.AcctMgmt flags status e = cc
not_end funcs.OpenSession flags status e = cc
not_end funcs.CloseSession flags status e = cc
not_end funcs.ChAuthTok flags status e = cc

-- a stack call isn't an end
pub stack_call_ends_none : (func : Func) (flags number status : ℕ) → IsEndStep (record { number = 1; call = stack_call func flags }) number status
    → IsNoEnd number status
stack_call_ends_none func flags number status e = not_end func flags status (same_call (stack_call func flags) (calls.End status) 1 number e)

-- nor is a start
pub start_ends_none : (service : List ℕ) (user : Option (List ℕ)) (number status : ℕ)
    → IsEndStep (record { number = 1; call = calls.Start service user }) number status → ⊥
start_ends_none service user number status e =
    let same : calls.Start service user ≡ calls.End status = same_call (calls.Start service user) (calls.End status) 1 number e in
    cc

pub end_ends : (code : Code) (number status : ℕ) → IsEndStep (record { number = 1; call = end_call code }) number status → IsEndWith code number status
end_ends code number status e =
    let same : calls.End (number_of code) ≡ calls.End status = same_call (calls.End (number_of code)) (calls.End status) 1 number e in
    (sym (ap (λ (s : Step). s.number) e), (let statuses : number_of code ≡ status = cc in sym statuses))

pub end_ends_as : (code : Code) (call : AppCall) → call ≡ end_call code → (number status : ℕ) → IsEndStep (record { number = 1; call = call }) number status
    → IsEndWith code number status
end_ends_as code call is number status e =
    let as_step : AppCall → Step = λ x. record { number = 1; call = x } in
    end_ends code number status (ap as_step (sym is) ∙ e)

-- ---- which ends a login makes

pub own_end : (denied : Option Code) (result : Result Verdict Stop) → ((code : Code) → denied ≡ Some code → IsDenial code)
    → IfOk result (λ (verdict : Verdict). verdict ≡ verdict_by denied)
    → (number status : ℕ) → IsEndWith (end_code denied) number status → IsEndOfLogin result number status
own_end None (Ok verdict) denies is number status e = rw is e
own_end (Some code) (Ok verdict) denies is number status e = rw is e
own_end None (Err stop) denies is number status e = inr (inl e)
own_end (Some code) (Err stop) denies is number status e = inr (inr (code, denies code refl, e))

pub closing_end : (result : Result Verdict Stop) (number status : ℕ) → IsEndWith (closing_code result) number status → IsEndOfLogin result number status
closing_end (Ok verdicts.Passed) number status e = e
closing_end (Ok (verdicts.Denied code)) number status e = e
closing_end (Ok verdicts.Refused) number status e = e
closing_end (Err stop) number status e = inl e

pub no_end : (result : Result Verdict Stop) (number status : ℕ) → IsNoEnd number status → IsEndOfLogin result number status
no_end result number status e = absurd e

pub start_no_end : (service : List ℕ) (user : Option (List ℕ)) (call : AppCall) → call ≡ calls.Start service user
    → (result : Result Verdict Stop) (number status : ℕ)
    → IsEndStep (record { number = 1; call = call }) number status → IsEndOfLogin result number status
start_no_end service user call is result number status e =
    let as_step : AppCall → Step = λ x. record { number = 1; call = x } in
    absurd (start_ends_none service user number status (ap as_step (sym is) ∙ e))

pub closing_end_as : (result : Result Verdict Stop) (code : Code) → code ≡ closing_code result → (number status : ℕ) → IsEndWith code number status
    → IsEndOfLogin result number status
closing_end_as result code is number status e = closing_end result number status (e.0, e.1 ∙ ap number_of is)

pub stack_no_end : (c : LoginCall) (call : AppCall) → call ≡ call_of c → (number status : ℕ) → IsEndStep (record { number = 1; call = call }) number status
    → IsNoEnd number status
stack_no_end c call is number status e =
    let as_step : AppCall → Step = λ x. record { number = 1; call = x } in
    stack_call_ends_none c.func c.flags number status (ap as_step (sym is) ∙ e)
