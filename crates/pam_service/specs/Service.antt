-- What `pam_service` is asked for (this project's own).
use Rattle.std.specs.Prelude.{ℕ, List, [], Option, Some, None}
use Rattle.cmd_all.specs.Command.{Command}
use Rattle.frame_service.specs.Service.{wires_under}
use Rattle.who_calls.specs.Request.{ServiceRequest}

-- what a request asks the program for, and for whom: nothing and nobody, if there is none
abbrev pub asked_command : Option ServiceRequest → Option Command
asked_command None = None
asked_command (Some a) = wires_under a.root

-- the directory that files are under
abbrev pub root_in : Option ServiceRequest → List ℕ
root_in None = []
root_in (Some a) = a.root

abbrev pub caller_in : Option ServiceRequest → ℕ
caller_in None = 65534
caller_in (Some a) = a.caller
