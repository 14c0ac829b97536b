-- The numbers and names of faults (this project's own).
use Rattle.std.specs.Prelude.{ℕ, List, codes}
use Rattle.pam_base.specs.declared.fault.FaultKind.{FaultKind}
use Rattle.pam_base.specs.declared.fault.FaultKind.TheVariants.{OpenBracket, NulByte, RuleTooLong, FileTooLong, BadControl, BadReturnName, BadAction, ZeroJump, BadType, MissingField, IncludeAbsent, TooDeep, TooManyLines, TooManyFiles, NoService, ReadFailed}
use Rattle.pam_base.specs.declared.fault.BadItem.{BadItem}
use Rattle.pam_base.specs.declared.fault.ScriptKind.{ScriptKind}
use Rattle.pam_base.specs.declared.fault.ScriptKind.TheVariants as script_kinds

-- the refusal of an item
abbrev pub bad_item : BadItem
bad_item = record {}

-- a fault of a configuration
abbrev pub fault_number : FaultKind → ℕ
fault_number OpenBracket = 1
fault_number NulByte = 2
fault_number RuleTooLong = 3
fault_number FileTooLong = 4
fault_number BadControl = 5
fault_number BadReturnName = 6
fault_number BadAction = 7
fault_number ZeroJump = 8
fault_number BadType = 9
fault_number MissingField = 10
fault_number IncludeAbsent = 11
fault_number TooDeep = 12
fault_number TooManyLines = 13
fault_number TooManyFiles = 14
fault_number NoService = 15
fault_number ReadFailed = 16

abbrev pub fault_name : FaultKind → List ℕ
fault_name OpenBracket = codes "OpenBracket"
fault_name NulByte = codes "NulByte"
fault_name RuleTooLong = codes "RuleTooLong"
fault_name FileTooLong = codes "FileTooLong"
fault_name BadControl = codes "BadControl"
fault_name BadReturnName = codes "BadReturnName"
fault_name BadAction = codes "BadAction"
fault_name ZeroJump = codes "ZeroJump"
fault_name BadType = codes "BadType"
fault_name MissingField = codes "MissingField"
fault_name IncludeAbsent = codes "IncludeAbsent"
fault_name TooDeep = codes "TooDeep"
fault_name TooManyLines = codes "TooManyLines"
fault_name TooManyFiles = codes "TooManyFiles"
fault_name NoService = codes "NoService"
fault_name ReadFailed = codes "ReadFailed"

-- a fault of a script's line
abbrev pub script_fault_number : ScriptKind → ℕ
script_fault_number script_kinds.BadWord = 1
script_fault_number script_kinds.BadNumeral = 2
script_fault_number script_kinds.LineTooLong = 3
script_fault_number script_kinds.TooManyLines = 4

abbrev pub script_fault_name : ScriptKind → List ℕ
script_fault_name script_kinds.BadWord = codes "BadWord"
script_fault_name script_kinds.BadNumeral = codes "BadNumeral"
script_fault_name script_kinds.LineTooLong = codes "LineTooLong"
script_fault_name script_kinds.TooManyLines = codes "TooManyLines"
