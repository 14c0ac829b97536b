-- For whom `pam_service_user` serves frames, and what it is asked for (this project's own).
use Rattle.std.specs.Prelude.{ℕ, List, [], ◌∷◌, Option, Some, None, Result, Ok, Err, String, codes}
use Rattle.std.specs.declared.alloc.Global.{Global}
use Rattle.account_db.specs.declared.fault.DbFault.{DbFault}
use Rattle.account_db.specs.declared.passwd.Passwd.{Passwd}
use Rattle.account_db.specs.Passwd.{entry_of_uid, passwds_of}
use Rattle.cmd_all.specs.Command.{Command}
use Rattle.frame_service.specs.Service.{wires_under}
use Rattle.who_calls.specs.declared.ids.Ids.{Ids}

-- frames under /, if there are no arguments
abbrev pub own_command : List (String Global) → Option Command
own_command [] = wires_under (codes "/")
own_command (word ∷ words) = None

-- the name of an entry; empty if there is none
abbrev pub name_of : Option Passwd → List ℕ
name_of None = []
name_of (Some entry) = entry.name

abbrev pub name_in : ℕ → Result (List Passwd) DbFault → List ℕ
name_in uid (Ok entries) = name_of (entry_of_uid uid entries)
name_in uid (Err fault) = []

-- the name of the process's real user in this password file (getpwuid(3)); empty if the system doesn't say who that is
abbrev pub own_name : Option Ids → List ℕ → List ℕ
own_name None passwd = []
own_name (Some ids) passwd = name_in ids.real (passwds_of passwd)
