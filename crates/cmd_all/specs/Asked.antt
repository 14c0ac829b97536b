-- The command that was found in the arguments of the command line (this project's own).
use Rattle.std.specs.Prelude.{◌≡◌, ℕ, true, List, Option, Some, None}
use Rattle.cmd_all.specs.declared.operand.Target.{Target}
use Rattle.cmd_all.specs.declared.command.Command.{Command as Found}
use Rattle.cmd_all.specs.declared.command.Command.TheVariants.{Run, Check, Login, LoginAs, Generate, Tally, Audit, Wire}
use Rattle.cmd_all.specs.Command.{Command, is_target, runs, checks, logs_in, generates, tallies, audits, wires}

abbrev pub command_found : Found → Command
command_found (Run root) = runs root.now
command_found (Check root service) = checks root.now service.now
command_found (Login target) = logs_in target.root.now target.service.now None
command_found (LoginAs target user) = logs_in target.root.now target.service.now (Some user.now)
command_found (Generate generate_args) = generates generate_args.seed generate_args.lines
command_found (Tally root user) = tallies root.now user.now
command_found (Audit root service) = audits root.now service.now
command_found (Wire root) = wires root.now

abbrev pub asked : Option Found → Option Command
asked None = None
asked (Some found) = Some (command_found found)

-- a target is named by these arguments
pub record IsTarget (target : Target) (root service : List ℕ) : Type 0 where
  pub root_is : target.root.now ≡ root
  pub service_is : target.service.now ≡ service
  pub fits : is_target root service ≡ true
