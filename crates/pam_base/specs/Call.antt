-- The calls on a transaction, their names and words (this project's own; the calls are those of pam(3)).
use Rattle.std.specs.Prelude.{ℕ, Bool, true, List, [], ◌∷◌, codes, length, nat_le}
use Rattle.pam_base.specs.ServiceName.{is_service_name}
use Rattle.pam_base.specs.declared.call.AppCall.{AppCall}
use Rattle.pam_base.specs.declared.call.AppCall.TheVariants as calls
use Rattle.pam_base.specs.declared.call.CallName.{CallName}
use Rattle.pam_base.specs.declared.call.CallName.TheVariants as names
use Rattle.pam_base.specs.declared.call.Func.{Func}
use Rattle.pam_base.specs.declared.call.Func.TheVariants as funcs

-- the word for a stack call in scripts and reports, by the function of modules that it runs
abbrev pub func_word : Func → List ℕ
func_word funcs.Authenticate = codes "authenticate"
func_word funcs.SetCred = codes "setcred"
func_word funcs.AcctMgmt = codes "acct_mgmt"
func_word funcs.OpenSession = codes "open_session"
func_word funcs.CloseSession = codes "close_session"
func_word funcs.ChAuthTok = codes "chauthtok"

-- the word for a call in scripts and reports
abbrev pub call_word : CallName → List ℕ
call_word names.Start = codes "start"
call_word names.End = codes "end"
call_word (names.Run func) = func_word func
call_word names.SetItem = codes "set_item"
call_word names.GetItem = codes "get_item"
call_word names.PutEnv = codes "putenv"
call_word names.GetEnv = codes "getenv"
call_word names.EnvList = codes "envlist"
call_word names.FailDelay = codes "fail_delay"
call_word names.DelayFn = codes "delay"
call_word names.Reply = codes "reply"

abbrev pub all_funcs : List Func
all_funcs = funcs.Authenticate ∷ funcs.SetCred ∷ funcs.AcctMgmt ∷ funcs.OpenSession
    ∷ funcs.CloseSession ∷ funcs.ChAuthTok ∷ []

abbrev pub all_calls : List CallName
all_calls = names.Start ∷ names.End ∷ names.Run funcs.Authenticate ∷ names.Run funcs.SetCred
    ∷ names.Run funcs.AcctMgmt ∷ names.Run funcs.OpenSession ∷ names.Run funcs.CloseSession
    ∷ names.Run funcs.ChAuthTok ∷ names.SetItem ∷ names.GetItem ∷ names.PutEnv ∷ names.GetEnv
    ∷ names.EnvList ∷ names.FailDelay ∷ names.DelayFn ∷ names.Reply ∷ []

-- the stack call that runs a function of modules, with these flags
abbrev pub stack_call : Func → ℕ → AppCall
stack_call funcs.Authenticate flags = calls.Authenticate flags
stack_call funcs.SetCred flags = calls.SetCred flags
stack_call funcs.AcctMgmt flags = calls.AcctMgmt flags
stack_call funcs.OpenSession flags = calls.OpenSession flags
stack_call funcs.CloseSession flags = calls.CloseSession flags
stack_call funcs.ChAuthTok flags = calls.ChAuthTok flags

-- a call without its arguments
abbrev pub name_of_call : AppCall → CallName
name_of_call (calls.Start service user) = names.Start
name_of_call (calls.End status) = names.End
name_of_call (calls.Authenticate flags) = names.Run funcs.Authenticate
name_of_call (calls.SetCred flags) = names.Run funcs.SetCred
name_of_call (calls.AcctMgmt flags) = names.Run funcs.AcctMgmt
name_of_call (calls.OpenSession flags) = names.Run funcs.OpenSession
name_of_call (calls.CloseSession flags) = names.Run funcs.CloseSession
name_of_call (calls.ChAuthTok flags) = names.Run funcs.ChAuthTok
name_of_call (calls.SetItem item value) = names.SetItem
name_of_call (calls.GetItem item) = names.GetItem
name_of_call (calls.PutEnv text) = names.PutEnv
name_of_call (calls.GetEnv name) = names.GetEnv
name_of_call calls.EnvList = names.EnvList
name_of_call (calls.FailDelay micros) = names.FailDelay
name_of_call (calls.DelayFn on) = names.DelayFn
name_of_call (calls.Reply text) = names.Reply

-- a start names a service, and a reply has at most 512 bytes
abbrev pub is_fit : AppCall → Bool
is_fit (calls.Start service user) = is_service_name service
is_fit (calls.Reply text) = nat_le (length text) 512
is_fit other = true
