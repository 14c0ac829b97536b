-- Test cases of reports, computed: what the steps of some transactions reported and returned, and
-- their lines.
use Rattle.std.specs.Prelude.{◌≡◌, ℕ, true, List, [], ◌∷◌, ◌++◌, codes, Some, None}
use Rattle.std.proofs.Common.{refl}
use Rattle.std.specs.Fmt.{digits}
use Rattle.pam_base.specs.declared.code.Code.{Code}
use Rattle.pam_base.specs.declared.code.Code.TheVariants.{Success, AuthErr, ConvErr, Abort, ModuleUnknown, BadItem, Incomplete}
use Rattle.pam_base.specs.declared.call.Func.TheVariants.{Authenticate}
use Rattle.pam_base.specs.declared.call.AppCall.{AppCall}
use Rattle.pam_base.specs.declared.call.AppCall.TheVariants as calls
use Rattle.pam_base.specs.declared.item.ItemName.TheVariants.{Tty, AuthTok}
use Rattle.pam_base.specs.declared.style.Style.TheVariants.{EchoOff, EchoOn}
use Rattle.pam_base.specs.declared.fault.FaultKind.TheVariants.{ZeroJump, ReadFailed}
use Rattle.pam_base.specs.declared.fault.ScriptKind.TheVariants.{BadWord}
use Rattle.pam_base.specs.Quote.{quoted_text}
use Rattle.pam_library.specs.data_cleanup.specs.Ledger.{PlainLedger}
use Rattle.pam_library.specs.data_cleanup.specs.declared.datum.Birth.{Birth}
use Rattle.pam_library.specs.data_cleanup.specs.declared.receipt.Filed.{Filed}
use Rattle.pam_library.specs.pam_room.specs.declared.visits.Visit.{Visit}
use Rattle.pam_library.specs.declared.outcome.Answer.{Answer}
use Rattle.pam_library.specs.declared.outcome.Answer.TheVariants as answers
use Rattle.pam_library.specs.Outcome.{PlainOutcome, answers_only}
use Rattle.report_step.specs.Fault.{refused_text}
use Rattle.report_lines.specs.Line.{status_words, script_text}
use Rattle.report_step.specs.Step.{step_text}
use Rattle.report_step.specs.Closing.{closing_text}

-- ---- texts and statuses

printable : quoted_text (codes " b~") ≡ codes " b~"
printable = refl

backslash : quoted_text (97 ∷ 92 ∷ 98 ∷ []) ≡ codes "a\\\\b"
backslash = refl

newline : quoted_text (97 ∷ 10 ∷ []) ≡ codes "a\\x0a"
newline = refl

not_printable : quoted_text (127 ∷ 255 ∷ []) ≡ codes "\\x7f\\xff"
not_printable = refl

zero_status : status_words 0 ≡ codes "00000000"
unfolding digits
zero_status = refl

small_status : status_words 26 ≡ codes "0000001a"
unfolding digits
small_status = refl

full_status : status_words 0xfedcba98 ≡ codes "fedcba98"
unfolding digits
full_status = refl

-- ---- steps of one transaction, number 1

-- the modules, by their numbers
abbrev names : List (List ℕ)
names = codes "pam_permit" ∷ codes "pam_probe" ∷ codes "pam_unix" ∷ []

abbrev no_data : PlainLedger
no_data = record { births = []; filed = [] }

-- module data that pam_probe set
abbrev probed : ℕ → List ℕ → List ℕ → Birth
probed id name payload = record { id = id; handle = 1; owner = 1; name = name; payload = payload }

abbrev filed : ℕ → ℕ → ℕ → ℕ → Filed
filed id status note mark = record { receipt = record { id = id; status = status; note = note }; mark = mark }

abbrev visit : ℕ → List ℕ → Code → Visit
visit place path answer = record { place = place; path = path; answer = answer }

-- lines run, and a code
abbrev passed : List Visit → Code → PlainOutcome
passed visits code = record (answers_only 0 (answers.Code code)) { trail = visits }

abbrev told : AppCall → PlainOutcome → PlainLedger → List ℕ
told call outcome ledger = step_text names (record { number = 1; call = call }) outcome ledger

-- only a result
abbrev answered : AppCall → Answer → List ℕ
answered call answer = told call (answers_only 0 answer) no_data

abbrev succeeded : AppCall → List ℕ
succeeded call = answered call (answers.Code Success)

abbrev start : AppCall
start = calls.Start (codes "t") (Some (codes "joe"))

first_login : succeeded start ++ (told (calls.Authenticate 0) (passed (visit 1 (codes "pam_permit.so") Success ∷ []) Success) no_data
    ++ succeeded (calls.End 0)) ≡ codes "1 start SUCCESS 0\n1 line 1 pam_permit SUCCESS 0\n1 authenticate SUCCESS 0\n1 end SUCCESS 0\n"
unfolding digits
first_login = refl

-- ---- data

probe_line : List Visit
probe_line = visit 1 (codes "/lib/security/pam_probe.so") Success ∷ []

-- one name was set three times, and the transaction ended with a status of its own
thrice : List Birth
thrice = probed 0 (codes "a") (codes "x") ∷ probed 1 (codes "a") (codes "yy") ∷ probed 2 (codes "a") (codes "zzz") ∷ []

twice_replaced : List Filed
twice_replaced = filed 0 0x20000000 256 3 ∷ filed 1 0x20000000 512 3 ∷ []

replaced : told (calls.Authenticate 0) (passed probe_line Success) (record { births = thrice; filed = twice_replaced })
    ≡ codes "1 line 1 pam_probe SUCCESS 0\n1 clean 0 20000000 256 pam_probe a\n1 clean 1 20000000 512 pam_probe a\n1 authenticate SUCCESS 0\n"
unfolding digits probe_line thrice twice_replaced
replaced = refl

ended : told (calls.End 0x40000007) (answers_only 2 (answers.Code Success))
    (record { births = thrice; filed = twice_replaced ++ filed 2 0x40000007 775 3 ∷ [] }) ≡ codes "1 clean 2 40000007 775 pam_probe a\n1 end SUCCESS 0\n"
unfolding digits thrice twice_replaced
ended = refl

-- two names, the last name first
two_names : List Birth
two_names = probed 0 (codes "a") (codes "1") ∷ probed 1 (codes "b") (codes "22") ∷ probed 2 (codes "a") (codes "333") ∷ []

last_name_first : told (calls.End 0) (answers_only 1 (answers.Code Success))
    (record { births = two_names; filed = filed 0 0x20000000 256 3 ∷ filed 1 0 512 3 ∷ filed 2 0 768 3 ∷ [] })
    ≡ codes "1 clean 1 00000000 512 pam_probe b\n1 clean 2 00000000 768 pam_probe a\n1 end SUCCESS 0\n"
unfolding digits two_names
last_name_first = refl

-- ---- the environment and items

environment : answered calls.EnvList (answers.List (codes "B=" ∷ [])) ++
    (answered (calls.GetEnv (codes "B")) (answers.Value (Some [])) ++ (answered (calls.GetEnv (codes "A")) (answers.Value None)
    ++ answered (calls.PutEnv (codes "A")) (answers.Code BadItem))) ≡ codes "1 env B=\n1 envlist 1\n1 getenv set \n1 getenv unset\n1 putenv BAD_ITEM 29\n"
unfolding digits
environment = refl

items : answered (calls.GetItem AuthTok) (answers.Code BadItem) ++ (succeeded (calls.SetItem Tty (Some (codes "pts/1")))
    ++ (answered (calls.GetItem Tty) (answers.Value (Some (codes "pts/1")))
    ++ (succeeded (calls.SetItem Tty None) ++ answered (calls.GetItem Tty) (answers.Value None))))
    ≡ codes "1 get_item BAD_ITEM 29\n1 set_item SUCCESS 0\n1 get_item set pts/1\n1 set_item SUCCESS 0\n1 get_item unset\n"
unfolding digits
items = refl

-- ---- prompts

prompted : told (calls.Authenticate 0) (record (passed (visit 1 (codes "pam_unix.so") ConvErr ∷ []) ConvErr)
    { said = record { style = EchoOff; text = codes "Password: " } ∷ [] }) no_data
    ≡ codes "1 say 1 Password: \n1 line 1 pam_unix CONV_ERR 19\n1 authenticate CONV_ERR 19\n"
unfolding digits
prompted = refl

-- an incomplete call, another call meanwhile, and the end
put_off : told (calls.Authenticate 0) (record (passed (visit 1 (codes "pam_probe.so") Incomplete ∷ []) Incomplete)
    { said = record { style = EchoOn; text = codes "Q" } ∷ [] }) no_data
    ++ (answered (calls.SetCred 2) (answers.Pending Authenticate)
    ++ told (calls.End 5) (answers_only 0 (answers.Code Success)) (record { births = probed 0 (codes "a") (codes "x") ∷ []; filed = filed 0 5 261 1 ∷ [] }))
    ≡ codes "1 say 2 Q\n1 line 1 pam_probe INCOMPLETE 31\n1 authenticate INCOMPLETE 31\n1 setcred ABORT 26 pending authenticate\n1 clean 0 00000005 261 pam_probe a\n1 end SUCCESS 0\n"
unfolding digits
put_off = refl

-- ---- delays

abbrev denied_after : ℕ → ℕ → PlainOutcome
denied_after asked wait = record (passed (visit 1 (codes "pam_deny.so") AuthErr ∷ []) AuthErr)
    { wait = Some (record { code = AuthErr; asked = asked; wait = wait }) }

waited : succeeded (calls.FailDelay 3000000) ++ (succeeded (calls.DelayFn true) ++ told (calls.Authenticate 0) (denied_after 3000001 3000000) no_data)
    ≡ codes "1 fail_delay SUCCESS 0\n1 delay SUCCESS 0\n1 line 1 pam_deny AUTH_ERR 7\n1 wait AUTH_ERR 7 3000001 3000000\n1 authenticate AUTH_ERR 7\n"
unfolding digits
waited = refl

not_waited : told (calls.Authenticate 0) (denied_after 0 0) no_data ≡ codes "1 line 1 pam_deny AUTH_ERR 7\n1 wait AUTH_ERR 7 0 0\n1 authenticate AUTH_ERR 7\n"
unfolding digits
not_waited = refl

-- ---- starts

missing : told start (record (answers_only 0 (answers.Code Success)) { missing = codes "pam_none" ∷ [] }) no_data ++ told (calls.Authenticate 0) (passed (visit 1 (codes "pam_none.so") ModuleUnknown ∷ visit 2 (codes "pam_none.so") ModuleUnknown ∷ []) ModuleUnknown) no_data ≡ codes "1 note missing pam_none\n1 start SUCCESS 0\n1 line 1 pam_none MODULE_UNKNOWN 28\n1 line 2 pam_none MODULE_UNKNOWN 28\n1 authenticate MODULE_UNKNOWN 28\n"
unfolding digits
missing = refl

unread : answered start (answers.Refused (record { file = codes "/etc/pam.d"; line = 0; kind = ReadFailed }))
    ≡ codes "1 start refused /etc/pam.d 0 ReadFailed 16\n"
unfolding digits
unread = refl

refused : refused_text (record { file = codes "/etc/pam.d/t"; line = 1; kind = ZeroJump }) ≡ codes "refused /etc/pam.d/t 1 ZeroJump 8\n"
unfolding digits
refused = refl

-- numbers of other transactions
abbrev answered_on : ℕ → AppCall → Answer → List ℕ
answered_on number call answer = step_text names (record { number = number; call = call }) (answers_only 0 answer) no_data

numbers : answered_on 17 start answers.BadNumber ++ (answered_on 1 start answers.AlreadyOpen
    ++ (answered_on 2 (calls.End 0) answers.NotOpen ++ closing_text names 1 Success no_data 0))
    ≡ codes "17 start bad number\n1 start already open\n2 end not open\n1 closed SUCCESS 0\n"
unfolding digits
numbers = refl

offered : answered (calls.Reply (codes "Hello world!")) answers.Nothing ≡ []
offered = refl

-- ---- a refused line of the script

abbrev credentials : PlainLedger
credentials = record {
  births = record { id = 0; handle = 2; owner = 2; name = codes "unix_setcred_return"; payload = 0 ∷ [] } ∷ [];
  filed = filed 0 26 1 1 ∷ [];
}

stopped : closing_text names 2 Abort credentials 0 ++ script_text 8 BadWord
    ≡ codes "2 clean 0 0000001a 1 pam_unix unix_setcred_return\n2 closed ABORT 26\nscript 8 BadWord 1\n"
unfolding digits
stopped = refl
