-- The calls of a login (pam_authenticate(3), pam_acct_mgmt(3), pam_chauthtok(3), pam_setcred(3), pam_open_session(3);
-- that a session is closed as soon as it was opened is this project's own).
use Rattle.std.specs.Prelude.{ℕ, Bool, true, false, List, [], ◌∷◌}
use Rattle.pam_base.specs.declared.code.Code.{Code}
use Rattle.pam_base.specs.declared.code.Code.TheVariants as codes
use Rattle.pam_base.specs.declared.call.AppCall.{AppCall}
use Rattle.pam_base.specs.declared.call.Func.{Func}
use Rattle.pam_base.specs.declared.call.Func.TheVariants as funcs
use Rattle.pam_base.specs.Call.{stack_call}
use Rattle.cmd_run.specs.pam_library.specs.declared.outcome.Answer.{Answer}
use Rattle.cmd_run.specs.pam_library.specs.declared.outcome.Answer.TheVariants as answers
use Rattle.cmd_login.specs.declared.calls.When.{When}
use Rattle.cmd_login.specs.declared.calls.When.TheVariants.{Always, TokenIsTooOld}
use Rattle.cmd_login.specs.declared.calls.Accepted.{Accepted}
use Rattle.cmd_login.specs.declared.calls.Accepted.TheVariants.{Success, SuccessOrTooOld, Any}
use Rattle.cmd_login.specs.declared.calls.LoginCall.{LoginCall}

-- whether a call is made, by the code of the call before it
abbrev pub is_due : When → Code → Bool
is_due Always last = true
is_due TokenIsTooOld codes.NewAuthtokReqd = true
is_due TokenIsTooOld last = false

-- whether the login goes on after a call with this code
abbrev pub accepts : Accepted → Code → Bool
accepts Success codes.Success = true
accepts Success code = false
accepts SuccessOrTooOld codes.Success = true
accepts SuccessOrTooOld codes.NewAuthtokReqd = true
accepts SuccessOrTooOld code = false
accepts Any code = true

-- the table: PAM_CHANGE_EXPIRED_AUTHTOK is 0x20, PAM_ESTABLISH_CRED 2, PAM_DELETE_CRED 4
abbrev row : ℕ → Func → ℕ → When → Accepted → LoginCall
row place func flags when accepted = record {
  place = place;
  func = func;
  flags = flags;
  when = when;
  accepted = accepted;
}

abbrev pub login_calls : List LoginCall
login_calls =
    row 1 funcs.Authenticate 0 Always Success
    ∷ row 2 funcs.AcctMgmt 0 Always SuccessOrTooOld
    ∷ row 3 funcs.ChAuthTok 0x20 TokenIsTooOld Success
    ∷ row 4 funcs.SetCred 2 Always Success
    ∷ row 5 funcs.OpenSession 0 Always Success
    ∷ row 6 funcs.CloseSession 0 Always Any
    ∷ row 7 funcs.SetCred 4 Always Any
    ∷ []

-- the place of the end; that of the start is 0
abbrev pub last_place : ℕ
last_place = 8

abbrev pub call_of : LoginCall → AppCall
call_of c = stack_call c.func c.flags

-- the code in a result; one that isn't a code counts as ABORT, as the line of a call that waits for another one says
abbrev pub code_in : Answer → Code
code_in (answers.Code code) = code
code_in answer = codes.Abort
