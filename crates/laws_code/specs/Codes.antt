-- The codes that each module returns at each function, if no allocation fails (pam_permit(8),
-- pam_deny(8), pam_rootok(8), pam_nologin(8), pam_shells(8), pam_securetty(8), pam_wheel(8),
-- pam_listfile(8), pam_succeed_if(8), pam_env(8), pam_faillock(8), pam_unix(8), pam_pwhistory(8);
-- the lists are this project's own). pam_debug(8) and pam_probe return each code.
use Rattle.std.specs.Prelude.{List, [], ◌∷◌}
use Rattle.pam_base.specs.Code.{all_codes}
use Rattle.pam_base.specs.declared.code.Code.{Code}
use Rattle.pam_base.specs.declared.code.Code.TheVariants as returns
use Rattle.pam_base.specs.declared.call.Func.{Func}
use Rattle.pam_base.specs.declared.call.Func.TheVariants.{Authenticate, SetCred, AcctMgmt, OpenSession, CloseSession, ChAuthTok}

-- ---- modules that decide at once

abbrev pub permit_codes : Func → List Code
permit_codes func = returns.Success ∷ []

abbrev pub deny_codes : Func → List Code
deny_codes SetCred = returns.CredErr ∷ []
deny_codes OpenSession = returns.SessionErr ∷ []
deny_codes CloseSession = returns.SessionErr ∷ []
deny_codes ChAuthTok = returns.AuthtokErr ∷ []
deny_codes other = returns.AuthErr ∷ []

abbrev pub rootok_codes : Func → List Code
rootok_codes SetCred = returns.Success ∷ []
rootok_codes OpenSession = returns.ModuleUnknown ∷ []
rootok_codes CloseSession = returns.ModuleUnknown ∷ []
rootok_codes other = returns.Success ∷ returns.AuthErr ∷ []

-- ---- modules that only check the user

-- by the codes of a check, in authenticate and acct_mgmt, and those of setcred
abbrev pub check_codes : List Code → List Code → Func → List Code
check_codes check setcred Authenticate = check
check_codes check setcred AcctMgmt = check
check_codes check setcred SetCred = setcred
check_codes check setcred other = returns.ModuleUnknown ∷ []

abbrev pub nologin_check : List Code
nologin_check = returns.Success ∷ returns.Ignore ∷ returns.AuthErr ∷ returns.ConvErr
    ∷ returns.ServiceErr ∷ returns.UserUnknown ∷ []

abbrev pub nologin_codes : Func → List Code
nologin_codes = check_codes nologin_check (returns.Success ∷ returns.Ignore ∷ [])

abbrev pub shells_check : List Code
shells_check = returns.Success ∷ returns.AuthErr ∷ returns.ConvErr ∷ []

abbrev pub shells_codes : Func → List Code
shells_codes = check_codes shells_check (returns.Success ∷ [])

abbrev pub securetty_check : List Code
securetty_check = returns.Success ∷ returns.AuthErr ∷ returns.ConvErr ∷ returns.ServiceErr
    ∷ returns.UserUnknown ∷ []

abbrev pub securetty_codes : Func → List Code
securetty_codes = check_codes securetty_check (returns.Success ∷ [])

abbrev pub wheel_check : List Code
wheel_check = returns.Success ∷ returns.Ignore ∷ returns.PermDenied ∷ returns.ConvErr
    ∷ returns.ServiceErr ∷ returns.UserUnknown ∷ []

abbrev pub wheel_codes : Func → List Code
wheel_codes = check_codes wheel_check (returns.Success ∷ [])

-- ---- modules with lists and conditions, which have all functions but decide setcred at once

abbrev pub listfile_rest : List Code
listfile_rest = returns.Success ∷ returns.Ignore ∷ returns.AuthErr ∷ returns.ConvErr
    ∷ returns.ServiceErr ∷ []

abbrev pub listfile_codes : Func → List Code
listfile_codes SetCred = returns.Success ∷ []
listfile_codes other = listfile_rest

abbrev pub succeed_if_rest : List Code
succeed_if_rest = returns.Success ∷ returns.AuthErr ∷ returns.ConvErr ∷ returns.ServiceErr
    ∷ returns.UserUnknown ∷ []

abbrev pub succeed_if_codes : Func → List Code
succeed_if_codes SetCred = returns.Ignore ∷ []
succeed_if_codes other = succeed_if_rest

-- ---- pam_env

-- where variables are set
abbrev pub env_sets : List Code
env_sets = returns.Success ∷ returns.BufErr ∷ returns.ServiceErr ∷ []

abbrev pub env_codes : Func → List Code
env_codes Authenticate = returns.Ignore ∷ []
env_codes SetCred = env_sets
env_codes OpenSession = env_sets
env_codes CloseSession = returns.Success ∷ []
env_codes other = returns.ServiceErr ∷ []

-- ---- pam_faillock

abbrev pub faillock_auth : List Code
faillock_auth = returns.Success ∷ returns.Ignore ∷ returns.AuthErr ∷ returns.ConvErr
    ∷ returns.ServiceErr ∷ returns.UserUnknown ∷ []

-- a user who is locked isn't refused here
abbrev pub faillock_account : List Code
faillock_account = returns.Success ∷ returns.Ignore ∷ returns.ConvErr ∷ returns.ServiceErr
    ∷ returns.UserUnknown ∷ []

abbrev pub faillock_codes : Func → List Code
faillock_codes Authenticate = faillock_auth
faillock_codes SetCred = returns.Success ∷ []
faillock_codes AcctMgmt = faillock_account
faillock_codes other = returns.ModuleUnknown ∷ []

-- ---- pam_unix

abbrev pub unix_auth : List Code
unix_auth = returns.Success ∷ returns.AuthErr ∷ returns.AuthinfoUnavail ∷ returns.ConvErr
    ∷ returns.UserUnknown ∷ []

abbrev pub unix_account : List Code
unix_account = returns.Success ∷ returns.AcctExpired ∷ returns.AuthtokExpired
    ∷ returns.NewAuthtokReqd ∷ returns.AuthinfoUnavail ∷ returns.ConvErr ∷ returns.UserUnknown ∷ []

abbrev pub unix_change : List Code
unix_change = returns.Success ∷ returns.AuthErr ∷ returns.AuthtokErr ∷ returns.AuthinfoUnavail
    ∷ returns.ConvErr ∷ returns.UserUnknown ∷ []

-- setcred returns the code that is kept in data with a certain name, which any module may set
abbrev pub unix_codes : Func → List Code
unix_codes Authenticate = unix_auth
unix_codes SetCred = all_codes
unix_codes AcctMgmt = unix_account
unix_codes ChAuthTok = unix_change
unix_codes other = returns.Success ∷ []

-- ---- pam_pwhistory

abbrev pub pwhistory_change : List Code
pwhistory_change = returns.Success ∷ returns.AuthtokErr ∷ returns.ConvErr ∷ returns.UserUnknown ∷ []

abbrev pub pwhistory_codes : Func → List Code
pwhistory_codes ChAuthTok = pwhistory_change
pwhistory_codes other = returns.ModuleUnknown ∷ []
