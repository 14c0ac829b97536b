-- pam_unix(8).
--
-- Its steps:
--   `unix_act`, `act_of_func`: what each of the six functions does
use Rattle.std.specs.Prelude.{ℕ, ◌==◌, if◌then◌else◌, List, [], ◌∷◌, Option, Some, None}
use Rattle.std.specs.List.{find}
use Rattle.std.specs.Option.{unwrap_or}
use Rattle.std.specs.Str.{bytes_eq}
use Rattle.pam_base.specs.Code.{all_codes, number_of}
use Rattle.pam_base.specs.declared.code.Code.{Code}
use Rattle.pam_base.specs.declared.code.Code.TheVariants as returns
use Rattle.pam_base.specs.declared.call.Func.{Func}
use Rattle.pam_base.specs.declared.call.Func.TheVariants.{Authenticate, SetCred, AcctMgmt, OpenSession, CloseSession, ChAuthTok}
use Rattle.pam_room.specs.Call.{PlainCall}
use Rattle.pam_room.specs.Module.{NamedData, Plays}
use Rattle.module_acts.specs.Act.{Act, answers, plays_by}
use Rattle.module_acts.specs.Steps.{sees_data}
use Rattle.mod_unix.specs.Account.{checks_account}
use Rattle.mod_unix.specs.Change.{changes_token}
use Rattle.mod_unix.specs.Authenticate.{authenticates, keeps_for_setcred, setcred_return}

-- the code with a number
abbrev pub code_numbered : ℕ → Option Code
code_numbered number = find (λ code. number_of code == number) all_codes

-- the payload of the data with a name
abbrev pub payload_named : List ℕ → List NamedData → Option (List ℕ)
payload_named name [] = None
payload_named name (d ∷ ds) = if bytes_eq d.name name then Some d.payload else payload_named name ds

-- what authenticate returned and kept, if that is one byte and the number of a code, else SUCCESS
abbrev pub code_in : Option (List ℕ) → Code
code_in None = returns.Success
code_in (Some []) = returns.Success
code_in (Some (b ∷ [])) = unwrap_or (code_numbered b) returns.Success
code_in (Some (b ∷ c ∷ cs)) = returns.Success

abbrev pub kept_code : List NamedData → Code
kept_code held = code_in (payload_named setcred_return held)

abbrev pub act_of_func : Func → PlainCall → Act
act_of_func Authenticate call = authenticates call keeps_for_setcred
act_of_func SetCred call = sees_data (λ held. answers (kept_code held))
act_of_func AcctMgmt call = checks_account answers
act_of_func ChAuthTok call = changes_token call answers
act_of_func OpenSession call = answers returns.Success
act_of_func CloseSession call = answers returns.Success

abbrev pub unix_act : PlainCall → Act
unix_act call = act_of_func call.func call

abbrev pub unix_plays : Plays
unix_plays = plays_by unix_act
