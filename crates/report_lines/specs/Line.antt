-- The lines of a report (this project's own): what they say, and their texts.
use Rattle.std.specs.Prelude.{◌≡◌, ℕ, ◌-◌, ◌%◌, ◌<◌, ◌^◌, false, List, [], ◌∷◌, ◌++◌, codes, map, length, replicate, Option, Some, None}
use Rattle.std.specs.List.{flat_map, AllByRecursion}
use Rattle.std.specs.Fmt.{decimal, digits}
use Rattle.pam_base.specs.declared.code.Code.{Code}
use Rattle.pam_base.specs.declared.code.Code.TheVariants.{Abort}
use Rattle.pam_base.specs.declared.call.CallName.{CallName}
use Rattle.pam_base.specs.declared.call.CallName.TheVariants as names
use Rattle.pam_base.specs.declared.call.Func.{Func}
use Rattle.pam_base.specs.declared.style.Style.{Style}
use Rattle.pam_base.specs.declared.fault.ScriptKind.{ScriptKind}
use Rattle.pam_base.specs.Call.{call_word}
use Rattle.pam_base.specs.Code.{number_of, name_of}
use Rattle.pam_base.specs.Fault.{fault_number, fault_name, script_fault_number, script_fault_name}
use Rattle.pam_base.specs.Quote.{quoted_text}
use Rattle.pam_base.specs.Style.{style_number}
use Rattle.script_lang.specs.Command.{word_of_func}
use Rattle.service_load.specs.declared.load_fault.LoadFault.{LoadFault}
use Rattle.handler_chain.specs.Retell.{RecordedLine}

-- ---- what a step reports before its result

-- a cleanup record: the data's number, the status and note, the names of the owner and of the data
pub record Cleanup : Type 0 where
  pub id : ℕ
  pub status : ℕ
  pub note : ℕ
  pub owner : List ℕ
  pub datum : List ℕ

pub data ToldLine : Type 0 where
  told_message : Style → List ℕ → ToldLine
  told_visit : RecordedLine → ToldLine
  told_cleanup : Cleanup → ToldLine
  told_wait : Code → ℕ → ℕ → ToldLine
  told_missing : List ℕ → ToldLine
  told_variable : List ℕ → ToldLine

-- ---- the result

pub data Shown : Type 0 where
  shows_code : Code → Shown
  shows_fault : LoadFault → Shown
  shows_value : Option (List ℕ) → Shown
  shows_count : ℕ → Shown
  shows_not_open : Shown
  shows_already_open : Shown
  shows_bad_number : Shown
  shows_pending : Func → Shown

-- the commands that speak of a transaction
pub data Command : Type 0 where
  starts : Command
  ends : Command
  runs : Func → Command
  sets_item : Command
  gets_item : Command
  puts_env : Command
  gets_env : Command
  lists_env : Command
  asks_delay : Command
  switches_delay : Command
  replies : Command

-- the call that a command makes
abbrev pub call_made : Command → CallName
call_made starts = names.Start
call_made ends = names.End
call_made (runs func) = names.Run func
call_made sets_item = names.SetItem
call_made gets_item = names.GetItem
call_made puts_env = names.PutEnv
call_made gets_env = names.GetEnv
call_made lists_env = names.EnvList
call_made asks_delay = names.FailDelay
call_made switches_delay = names.DelayFn
call_made replies = names.Reply

abbrev pub command_word : Command → List ℕ
command_word command = call_word (call_made command)

-- the result of a command, or of a transaction that the program ended
pub data Result : Type 0 where
  answered : Command → Shown → Result
  closed_by_program : Code → Result

-- ---- a block: the report of one step, or of one transaction that the program ended

pub record Block : Type 0 where
  pub number : ℕ
  pub told : List ToldLine
  pub result : Result

abbrev pub block_of : ℕ → List ToldLine → Result → Block
block_of number told result = record { number = number; told = told; result = result }

-- the last line of a run that couldn't go on
pub data Last : Type 0 where
  unread : Last
  refused_at : ℕ → ScriptKind → Last

-- ---- texts

-- a number of at most 64 bits; a larger one counts by its remainder
abbrev pub number_words : ℕ → List ℕ
number_words n = decimal (n % 2 ^ 64)

-- NAME NUMBER
abbrev pub code_words : Code → List ℕ
code_words code = name_of code ++ (codes " " ++ decimal (number_of code))

-- a status in hexadecimal digits, with zeros before them up to eight
abbrev pub status_words : ℕ → List ℕ
status_words status = let numeral = digits 16 false (status % 2 ^ 32) in
    replicate (8 - length numeral) 48 ++ numeral

-- say STYLE TEXT
abbrev pub message_text : ℕ → Style → List ℕ → List ℕ
message_text handle style text = decimal handle
    ++ (codes " say " ++ (decimal (style_number style)
    ++ (codes " " ++ (quoted_text text ++ codes "\n"))))

-- line RULE MODULE NAME NUMBER
abbrev pub visit_text : ℕ → RecordedLine → List ℕ
visit_text handle v = decimal handle
    ++ (codes " line " ++ (number_words v.place
    ++ (codes " " ++ (quoted_text v.name ++ (codes " " ++ (code_words v.answer ++ codes "\n"))))))

-- MODULE DATA
abbrev pub names_text : List ℕ → List ℕ → List ℕ
names_text owner datum = quoted_text owner ++ (codes " " ++ (quoted_text datum ++ codes "\n"))

-- clean ID STATUS NOTE MODULE DATA
abbrev pub cleanup_text : ℕ → Cleanup → List ℕ
cleanup_text handle c = decimal handle
    ++ (codes " clean " ++ (number_words c.id
    ++ (codes " " ++ (status_words c.status
    ++ (codes " " ++ (number_words c.note ++ (codes " " ++ names_text c.owner c.datum)))))))

-- wait NAME NUMBER ASKED WAIT
abbrev pub wait_text : ℕ → Code → ℕ → ℕ → List ℕ
wait_text handle code asked wait = decimal handle
    ++ (codes " wait " ++ (code_words code
    ++ (codes " " ++ (number_words asked ++ (codes " " ++ (number_words wait ++ codes "\n"))))))

-- note missing MODULE
abbrev pub missing_text : ℕ → List ℕ → List ℕ
missing_text handle name = decimal handle
    ++ (codes " note missing " ++ (quoted_text name ++ codes "\n"))

-- env N=V
abbrev pub variable_text : ℕ → List ℕ → List ℕ
variable_text handle variable = decimal handle
    ++ (codes " env " ++ (quoted_text variable ++ codes "\n"))

abbrev pub told_text : ℕ → ToldLine → List ℕ
told_text handle (told_message style text) = message_text handle style text
told_text handle (told_visit v) = visit_text handle v
told_text handle (told_cleanup c) = cleanup_text handle c
told_text handle (told_wait code asked wait) = wait_text handle code asked wait
told_text handle (told_missing name) = missing_text handle name
told_text handle (told_variable variable) = variable_text handle variable

abbrev pub all_told_text : ℕ → List ToldLine → List ℕ
all_told_text handle told = flat_map (told_text handle) told

-- set TEXT, or unset
abbrev pub value_words : Option (List ℕ) → List ℕ
value_words (Some text) = codes "set " ++ quoted_text text
value_words None = codes "unset"

-- refused FILE LINE NAME NUMBER
abbrev pub refused_words : LoadFault → List ℕ
refused_words fault = codes "refused "
    ++ (quoted_text fault.file
    ++ (codes " " ++ (number_words fault.line
    ++ (codes " " ++ (fault_name fault.kind ++ (codes " " ++ decimal (fault_number fault.kind)))))))

-- ABORT 26 pending NAME
abbrev pub pending_words : Func → List ℕ
pending_words func = code_words Abort ++ (codes " pending " ++ word_of_func func)

abbrev pub shown_words : Shown → List ℕ
shown_words (shows_code code) = code_words code
shown_words (shows_fault fault) = refused_words fault
shown_words (shows_value value) = value_words value
shown_words (shows_count n) = number_words n
shown_words shows_not_open = codes "not open"
shown_words shows_already_open = codes "already open"
shown_words shows_bad_number = codes "bad number"
shown_words (shows_pending func) = pending_words func

-- H COMMAND WORDS
abbrev pub words_text : ℕ → List ℕ → List ℕ → List ℕ
words_text handle command words = decimal handle
    ++ (codes " " ++ (command ++ (codes " " ++ (words ++ codes "\n"))))

abbrev pub result_text : ℕ → Result → List ℕ
result_text handle (answered command shown) =
    words_text handle (command_word command) (shown_words shown)
result_text handle (closed_by_program code) = words_text handle (codes "closed") (code_words code)

abbrev pub block_text : Block → List ℕ
block_text b = all_told_text b.number b.told ++ result_text b.number b.result

abbrev pub blocks_text : List Block → List ℕ
blocks_text blocks = flat_map block_text blocks

abbrev pub script_text : ℕ → ScriptKind → List ℕ
script_text line kind = codes "script "
    ++ (number_words line
    ++ (codes " " ++ (script_fault_name kind
    ++ (codes " " ++ (decimal (script_fault_number kind) ++ codes "\n")))))

abbrev pub last_text : Option Last → List ℕ
last_text None = []
last_text (Some unread) = codes "read fault\n"
last_text (Some (refused_at line kind)) = script_text line kind

-- ---- the ranges of what is printed

abbrev pub AreBytes : List ℕ → Type 0
AreBytes text = AllByRecursion (λ (b : ℕ). b < 256) text

-- a number as a byte, and as a word of 32 bits
abbrev pub byte_of : ℕ → ℕ
byte_of n = n % 256

abbrev pub bytes_of : List ℕ → List ℕ
bytes_of text = map byte_of text

abbrev pub word_of : ℕ → ℕ
word_of n = n % 2 ^ 32

-- a number as a word of 64 bits
abbrev pub long_of : ℕ → ℕ
long_of n = n % 2 ^ 64

abbrev pub IsLong : ℕ → Type 0
IsLong n = n < 2 ^ 64

-- a line that was run
pub record IsSeen (v : RecordedLine) : Type 0 where
  pub place : IsLong v.place
  pub name : AreBytes v.name

-- NAME=VALUE
pub record IsVariable (text : List ℕ) : Type 0 where
  pub name : List ℕ
  pub value : List ℕ
  pub is : text ≡ name ++ 61 ∷ value
  pub bytes : AreBytes text

abbrev pub IsTold : ToldLine → Type 0
IsTold (told_message style text) = AreBytes text
IsTold (told_visit v) = IsSeen v
IsTold (told_cleanup c) = IsLong c.id × (c.status < 2 ^ 32) × IsLong c.note × AreBytes c.owner
    × AreBytes c.datum
IsTold (told_wait code asked wait) = IsLong asked × IsLong wait
IsTold (told_missing name) = AreBytes name
IsTold (told_variable variable) = IsVariable variable

abbrev pub IsShown : Shown → Type 0
IsShown (shows_fault fault) = AreBytes fault.file × IsLong fault.line
IsShown (shows_count n) = IsLong n
IsShown (shows_value (Some text)) = AreBytes text
IsShown shown = Unit {0}

abbrev pub IsResult : Result → Type 0
IsResult (answered command shown) = IsShown shown
IsResult (closed_by_program code) = Unit {0}

pub record IsBlock (b : Block) : Type 0 where
  pub number : b.number < 2 ^ 32
  pub told : AllByRecursion IsTold b.told
  pub result : IsResult b.result

abbrev pub AreBlocks : List Block → Type 0
AreBlocks blocks = AllByRecursion IsBlock blocks

abbrev pub IsLast : Option Last → Type 0
IsLast (Some (refused_at line kind)) = IsLong line
IsLast last = Unit {0}
