-- The kinds of frames: the calls, as a table (this project's own; the calls are those of pam(3)).
use Rattle.std.specs.Prelude.{ℕ, ◌==◌, Option}
use Rattle.std.specs.List.{find}
use Rattle.pam_base.specs.declared.call.CallName.{CallName}
use Rattle.pam_base.specs.declared.call.CallName.TheVariants as names
use Rattle.pam_base.specs.declared.call.Func.TheVariants as funcs
use Rattle.pam_base.specs.Call.{all_calls}

abbrev pub number_of : CallName → ℕ
number_of names.Start = 1
number_of names.End = 2
number_of (names.Run funcs.Authenticate) = 3
number_of (names.Run funcs.SetCred) = 4
number_of (names.Run funcs.AcctMgmt) = 5
number_of (names.Run funcs.OpenSession) = 6
number_of (names.Run funcs.CloseSession) = 7
number_of (names.Run funcs.ChAuthTok) = 8
number_of names.SetItem = 9
number_of names.GetItem = 10
number_of names.PutEnv = 11
number_of names.GetEnv = 12
number_of names.EnvList = 13
number_of names.FailDelay = 14
number_of names.DelayFn = 15
number_of names.Reply = 16

-- the call of a number
abbrev pub call_of_number : ℕ → Option CallName
call_of_number number = find (λ call. number_of call == number) all_calls
