-- The words of a line (this project's own): where they are cut, and which number, bytes, code or
-- command each may mean. Each is defined for any bytes; whether the line is printed so is tested
-- afterwards.
use Rattle.std.specs.Prelude.{ℕ, ◌+◌, ◌-◌, ◌*◌, ◌%◌, ◌^◌, nat_eq, if◌then◌else◌, List, [], ◌∷◌, fold, reverse, unwrap_or}
use Rattle.std.specs.Char.{digit_value}
use Rattle.std.specs.List.{find}
use Rattle.std.specs.Str.{bytes_eq}
use Rattle.pam_base.specs.declared.code.Code.{Code}
use Rattle.pam_base.specs.declared.code.Code.TheVariants.{Success}
use Rattle.pam_base.specs.declared.call.Func.{Func}
use Rattle.pam_base.specs.declared.call.Func.TheVariants as funcs
use Rattle.pam_base.specs.declared.fault.FaultKind.{FaultKind}
use Rattle.pam_base.specs.declared.fault.FaultKind.TheVariants.{OpenBracket, NulByte, RuleTooLong, FileTooLong, BadControl, BadReturnName, BadAction, ZeroJump, BadType, MissingField, IncludeAbsent, TooDeep, TooManyLines, TooManyFiles, NoService, ReadFailed}
use Rattle.pam_base.specs.declared.fault.ScriptKind.{ScriptKind}
use Rattle.pam_base.specs.declared.fault.ScriptKind.TheVariants as script_kinds
use Rattle.pam_base.specs.declared.style.Style.{Style}
use Rattle.pam_base.specs.declared.style.Style.TheVariants.{EchoOff, EchoOn, ErrorMsg, TextInfo}
use Rattle.pam_base.specs.Call.{all_funcs}
use Rattle.pam_base.specs.Code.{code_of_word}
use Rattle.pam_base.specs.Fault.{fault_name, script_fault_name}
use Rattle.pam_base.specs.Style.{style_number}
use Rattle.script_lang.specs.Command.{word_of_func}
use Rattle.report_lines.specs.Line.{Command, starts, ends, runs, sets_item, gets_item, puts_env, gets_env, lists_env, asks_delay, switches_delay, replies, command_word}

-- what comes before the first space, and after it
abbrev pub before_space : List ℕ → List ℕ
before_space [] = []
before_space (b ∷ bs) = if nat_eq b 32 then [] else b ∷ before_space bs

abbrev pub after_space : List ℕ → List ℕ
after_space [] = []
after_space (b ∷ bs) = if nat_eq b 32 then bs else after_space bs

-- what follows the last space, and before it
abbrev pub last_word : List ℕ → List ℕ
last_word text = reverse (before_space (reverse text))

abbrev pub before_last : List ℕ → List ℕ
before_last text = reverse (after_space (reverse text))

-- the number of 64 bits that decimal digits may mean, and the number of 32 bits that hexadecimal
-- digits may mean
abbrev pub guessed_number : List ℕ → ℕ
guessed_number digits = fold (λ value digit. (value * 10 % 2 ^ 64 + (digit - 48)) % 2 ^ 64) 0 digits

abbrev pub guessed_status : List ℕ → ℕ
guessed_status digits =
    fold (λ value digit. (value * 16 % 2 ^ 32 + digit_value digit) % 2 ^ 32) 0 digits

-- within a quoted text: between two bytes, after a backslash, after \x, after \x and a digit
pub data Unquoting : Type 0 where
  between : Unquoting
  escaped : Unquoting
  coded : Unquoting
  half_coded : ℕ → Unquoting

-- the bytes that a quoted text may mean
abbrev pub unquoted_from : Unquoting → List ℕ → List ℕ
unquoted_from state [] = []
unquoted_from between (b ∷ bs) =
    if nat_eq b 92 then unquoted_from escaped bs else (b % 256) ∷ unquoted_from between bs
unquoted_from escaped (b ∷ bs) =
    if nat_eq b 120 then unquoted_from coded bs else (b % 256) ∷ unquoted_from between bs
unquoted_from coded (b ∷ bs) = unquoted_from (half_coded (digit_value b)) bs
unquoted_from (half_coded high) (b ∷ bs) = ((16 * high + digit_value b) % 256)
    ∷ unquoted_from between bs

abbrev pub unquoted : List ℕ → List ℕ
unquoted text = unquoted_from between text

-- what a word names
abbrev pub guessed_code : List ℕ → Code
guessed_code word = unwrap_or (code_of_word word) Success

abbrev pub all_styles : List Style
all_styles = EchoOff ∷ EchoOn ∷ ErrorMsg ∷ TextInfo ∷ []

abbrev pub guessed_style : ℕ → Style
guessed_style n = unwrap_or (find (λ style. nat_eq (style_number style) n) all_styles) TextInfo

abbrev pub all_faults : List FaultKind
all_faults = OpenBracket ∷ NulByte ∷ RuleTooLong ∷ FileTooLong ∷ BadControl ∷ BadReturnName
    ∷ BadAction ∷ ZeroJump ∷ BadType ∷ MissingField ∷ IncludeAbsent ∷ TooDeep ∷ TooManyLines
    ∷ TooManyFiles ∷ NoService ∷ ReadFailed ∷ []

abbrev pub guessed_fault : List ℕ → FaultKind
guessed_fault word =
    unwrap_or (find (λ kind. bytes_eq (fault_name kind) word) all_faults) ReadFailed

abbrev pub all_script_faults : List ScriptKind
all_script_faults = script_kinds.BadWord ∷ script_kinds.BadNumeral ∷ script_kinds.LineTooLong
    ∷ script_kinds.TooManyLines ∷ []

abbrev pub guessed_script_fault : List ℕ → ScriptKind
guessed_script_fault word =
    unwrap_or (find (λ kind. bytes_eq (script_fault_name kind) word) all_script_faults)
    script_kinds.BadWord

abbrev pub guessed_func : List ℕ → Func
guessed_func word =
    unwrap_or (find (λ func. bytes_eq (word_of_func func) word) all_funcs) funcs.Authenticate

-- the commands of a table by their words
abbrev pub all_commands : List Command
all_commands = starts ∷ ends ∷ runs funcs.Authenticate ∷ runs funcs.SetCred ∷ runs funcs.AcctMgmt
    ∷ runs funcs.OpenSession ∷ runs funcs.CloseSession ∷ runs funcs.ChAuthTok ∷ sets_item
    ∷ gets_item ∷ puts_env ∷ gets_env ∷ lists_env ∷ asks_delay ∷ switches_delay ∷ replies ∷ []

abbrev pub guessed_command : List ℕ → Command
guessed_command word =
    unwrap_or (find (λ command. bytes_eq (command_word command) word) all_commands) starts
