-- The words of codes, faults, functions and commands: each is one word of one line, and names what it is the word of.
use Rattle.std.proofs.Common.{◌≡◌, ℕ, true, false, nat_lt, List, None, refl}
use Rattle.pam_base.specs.declared.code.Code.{Code}
use Rattle.pam_base.specs.declared.code.Code.TheVariants as names
use Rattle.pam_base.specs.declared.call.Func.{Func}
use Rattle.pam_base.specs.declared.call.Func.TheVariants as funcs
use Rattle.pam_base.specs.declared.fault.FaultKind.{FaultKind}
use Rattle.pam_base.specs.declared.fault.FaultKind.TheVariants as kinds
use Rattle.pam_base.specs.declared.fault.ScriptKind.{ScriptKind}
use Rattle.pam_base.specs.declared.fault.ScriptKind.TheVariants as script_kinds
use Rattle.pam_base.specs.declared.style.Style.{Style}
use Rattle.pam_base.specs.declared.style.Style.TheVariants as styles
use Rattle.pam_base.specs.Bytes.{has_byte}
use Rattle.pam_base.specs.Code.{number_of, name_of}
use Rattle.pam_base.specs.Fault.{fault_number, fault_name, script_fault_number, script_fault_name}
use Rattle.pam_base.specs.Style.{style_number}
use Rattle.script_lang.specs.Command.{word_of_func}
use Rattle.report_lines.specs.Line.{Command, starts, ends, runs, sets_item, gets_item, puts_env, gets_env, lists_env, asks_delay, switches_delay, replies, answered, command_word}
use Rattle.report_lines.specs.Words.{guessed_code, guessed_style, guessed_fault, guessed_script_fault, guessed_func}
use Rattle.report_lines.specs.Guess.{guessed_answer, guessed_by, guessed_told, guessed_result, guessed_shown}

pub record KnownCode (c : Code) : Type 0 where
  pub small : nat_lt (number_of c) 64 ≡ true
  pub one : has_byte 32 (name_of c) ≡ false
  pub line : has_byte 10 (name_of c) ≡ false
  pub back : guessed_code (name_of c) ≡ c
  pub shown : (words : List ℕ) → guessed_by (name_of c) words ≡ guessed_answer words

pub known_code : (c : Code) → KnownCode c
known_code names.Success = record { small = refl; one = refl; line = refl; back = refl; shown = λ words. refl }
known_code names.OpenErr = record { small = refl; one = refl; line = refl; back = refl; shown = λ words. refl }
known_code names.SymbolErr = record { small = refl; one = refl; line = refl; back = refl; shown = λ words. refl }
known_code names.ServiceErr = record { small = refl; one = refl; line = refl; back = refl; shown = λ words. refl }
known_code names.SystemErr = record { small = refl; one = refl; line = refl; back = refl; shown = λ words. refl }
known_code names.BufErr = record { small = refl; one = refl; line = refl; back = refl; shown = λ words. refl }
known_code names.PermDenied = record { small = refl; one = refl; line = refl; back = refl; shown = λ words. refl }
known_code names.AuthErr = record { small = refl; one = refl; line = refl; back = refl; shown = λ words. refl }
known_code names.CredInsufficient = record { small = refl; one = refl; line = refl; back = refl; shown = λ words. refl }
known_code names.AuthinfoUnavail = record { small = refl; one = refl; line = refl; back = refl; shown = λ words. refl }
known_code names.UserUnknown = record { small = refl; one = refl; line = refl; back = refl; shown = λ words. refl }
known_code names.MaxTries = record { small = refl; one = refl; line = refl; back = refl; shown = λ words. refl }
known_code names.NewAuthtokReqd = record { small = refl; one = refl; line = refl; back = refl; shown = λ words. refl }
known_code names.AcctExpired = record { small = refl; one = refl; line = refl; back = refl; shown = λ words. refl }
known_code names.SessionErr = record { small = refl; one = refl; line = refl; back = refl; shown = λ words. refl }
known_code names.CredUnavail = record { small = refl; one = refl; line = refl; back = refl; shown = λ words. refl }
known_code names.CredExpired = record { small = refl; one = refl; line = refl; back = refl; shown = λ words. refl }
known_code names.CredErr = record { small = refl; one = refl; line = refl; back = refl; shown = λ words. refl }
known_code names.NoModuleData = record { small = refl; one = refl; line = refl; back = refl; shown = λ words. refl }
known_code names.ConvErr = record { small = refl; one = refl; line = refl; back = refl; shown = λ words. refl }
known_code names.AuthtokErr = record { small = refl; one = refl; line = refl; back = refl; shown = λ words. refl }
known_code names.AuthtokRecoveryErr = record { small = refl; one = refl; line = refl; back = refl; shown = λ words. refl }
known_code names.AuthtokLockBusy = record { small = refl; one = refl; line = refl; back = refl; shown = λ words. refl }
known_code names.AuthtokDisableAging = record { small = refl; one = refl; line = refl; back = refl; shown = λ words. refl }
known_code names.TryAgain = record { small = refl; one = refl; line = refl; back = refl; shown = λ words. refl }
known_code names.Ignore = record { small = refl; one = refl; line = refl; back = refl; shown = λ words. refl }
known_code names.Abort = record { small = refl; one = refl; line = refl; back = refl; shown = λ words. refl }
known_code names.AuthtokExpired = record { small = refl; one = refl; line = refl; back = refl; shown = λ words. refl }
known_code names.ModuleUnknown = record { small = refl; one = refl; line = refl; back = refl; shown = λ words. refl }
known_code names.BadItem = record { small = refl; one = refl; line = refl; back = refl; shown = λ words. refl }
known_code names.ConvAgain = record { small = refl; one = refl; line = refl; back = refl; shown = λ words. refl }
known_code names.Incomplete = record { small = refl; one = refl; line = refl; back = refl; shown = λ words. refl }

pub record KnownFault (k : FaultKind) : Type 0 where
  pub small : nat_lt (fault_number k) 64 ≡ true
  pub one : has_byte 32 (fault_name k) ≡ false
  pub line : has_byte 10 (fault_name k) ≡ false
  pub back : guessed_fault (fault_name k) ≡ k

pub known_fault : (k : FaultKind) → KnownFault k
known_fault kinds.OpenBracket = record { small = refl; one = refl; line = refl; back = refl }
known_fault kinds.NulByte = record { small = refl; one = refl; line = refl; back = refl }
known_fault kinds.RuleTooLong = record { small = refl; one = refl; line = refl; back = refl }
known_fault kinds.FileTooLong = record { small = refl; one = refl; line = refl; back = refl }
known_fault kinds.BadControl = record { small = refl; one = refl; line = refl; back = refl }
known_fault kinds.BadReturnName = record { small = refl; one = refl; line = refl; back = refl }
known_fault kinds.BadAction = record { small = refl; one = refl; line = refl; back = refl }
known_fault kinds.ZeroJump = record { small = refl; one = refl; line = refl; back = refl }
known_fault kinds.BadType = record { small = refl; one = refl; line = refl; back = refl }
known_fault kinds.MissingField = record { small = refl; one = refl; line = refl; back = refl }
known_fault kinds.IncludeAbsent = record { small = refl; one = refl; line = refl; back = refl }
known_fault kinds.TooDeep = record { small = refl; one = refl; line = refl; back = refl }
known_fault kinds.TooManyLines = record { small = refl; one = refl; line = refl; back = refl }
known_fault kinds.TooManyFiles = record { small = refl; one = refl; line = refl; back = refl }
known_fault kinds.NoService = record { small = refl; one = refl; line = refl; back = refl }
known_fault kinds.ReadFailed = record { small = refl; one = refl; line = refl; back = refl }

pub record KnownScript (k : ScriptKind) : Type 0 where
  pub small : nat_lt (script_fault_number k) 64 ≡ true
  pub one : has_byte 32 (script_fault_name k) ≡ false
  pub line : has_byte 10 (script_fault_name k) ≡ false
  pub back : guessed_script_fault (script_fault_name k) ≡ k

pub known_script : (k : ScriptKind) → KnownScript k
known_script script_kinds.BadWord = record { small = refl; one = refl; line = refl; back = refl }
known_script script_kinds.BadNumeral = record { small = refl; one = refl; line = refl; back = refl }
known_script script_kinds.LineTooLong = record { small = refl; one = refl; line = refl; back = refl }
known_script script_kinds.TooManyLines = record { small = refl; one = refl; line = refl; back = refl }

pub record KnownStyle (s : Style) : Type 0 where
  pub small : nat_lt (style_number s) 64 ≡ true
  pub back : guessed_style (style_number s) ≡ s

pub known_style : (s : Style) → KnownStyle s
known_style styles.EchoOff = record { small = refl; back = refl }
known_style styles.EchoOn = record { small = refl; back = refl }
known_style styles.ErrorMsg = record { small = refl; back = refl }
known_style styles.TextInfo = record { small = refl; back = refl }

pub record KnownFunc (f : Func) : Type 0 where
  pub line : has_byte 10 (word_of_func f) ≡ false
  pub back : guessed_func (word_of_func f) ≡ f

pub known_func : (f : Func) → KnownFunc f
known_func funcs.Authenticate = record { line = refl; back = refl }
known_func funcs.SetCred = record { line = refl; back = refl }
known_func funcs.AcctMgmt = record { line = refl; back = refl }
known_func funcs.OpenSession = record { line = refl; back = refl }
known_func funcs.CloseSession = record { line = refl; back = refl }
known_func funcs.ChAuthTok = record { line = refl; back = refl }

pub record KnownCommand (c : Command) : Type 0 where
  pub one : has_byte 32 (command_word c) ≡ false
  pub line : has_byte 10 (command_word c) ≡ false
  pub told : (words : List ℕ) → guessed_told (command_word c) words ≡ None
  pub back : (words : List ℕ) → guessed_result (command_word c) words ≡ answered c (guessed_shown words)

pub known_command : (c : Command) → KnownCommand c
known_command starts = record { one = refl; line = refl; told = λ words. refl; back = λ words. refl }
known_command ends = record { one = refl; line = refl; told = λ words. refl; back = λ words. refl }
known_command (runs funcs.Authenticate) = record { one = refl; line = refl; told = λ words. refl; back = λ words. refl }
known_command (runs funcs.SetCred) = record { one = refl; line = refl; told = λ words. refl; back = λ words. refl }
known_command (runs funcs.AcctMgmt) = record { one = refl; line = refl; told = λ words. refl; back = λ words. refl }
known_command (runs funcs.OpenSession) = record { one = refl; line = refl; told = λ words. refl; back = λ words. refl }
known_command (runs funcs.CloseSession) = record { one = refl; line = refl; told = λ words. refl; back = λ words. refl }
known_command (runs funcs.ChAuthTok) = record { one = refl; line = refl; told = λ words. refl; back = λ words. refl }
known_command sets_item = record { one = refl; line = refl; told = λ words. refl; back = λ words. refl }
known_command gets_item = record { one = refl; line = refl; told = λ words. refl; back = λ words. refl }
known_command puts_env = record { one = refl; line = refl; told = λ words. refl; back = λ words. refl }
known_command gets_env = record { one = refl; line = refl; told = λ words. refl; back = λ words. refl }
known_command lists_env = record { one = refl; line = refl; told = λ words. refl; back = λ words. refl }
known_command asks_delay = record { one = refl; line = refl; told = λ words. refl; back = λ words. refl }
known_command switches_delay = record { one = refl; line = refl; told = λ words. refl; back = λ words. refl }
known_command replies = record { one = refl; line = refl; told = λ words. refl; back = λ words. refl }
