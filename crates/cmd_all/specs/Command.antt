-- The arguments of the command line (this project's own).
use Rattle.std.specs.Prelude.{ℕ, Bool, false, not, ◌&&◌, List, [], ◌∷◌, Option, Some, None, codes, string_bytes, String, if◌then◌else◌, nat_eq, nat_le}
use Rattle.std.specs.Str.{bytes_eq}
use Rattle.std.specs.declared.alloc.Global.{Global}
use Rattle.cmd_tally.specs.mod_tally.specs.Faillock.{is_no_file}
use Rattle.pam_base.specs.Number.{number_of_word}
use Rattle.pam_base.specs.ServiceName.{is_service_name}
use Rattle.cmd_all.specs.declared.command.Name.{Name}
use Rattle.cmd_all.specs.declared.command.Name.TheVariants.{Run, Check, Login, Generate, Tally, Audit, Wire}

-- what the program is asked for
pub data Command : Type 0 where
  -- the calls of a script under a root
  runs : List ℕ → Command
  -- the configuration of a service under a root
  checks : List ℕ → List ℕ → Command
  -- a login with a service under a root, of a named user or of one whose name is asked for
  logs_in : List ℕ → List ℕ → Option (List ℕ) → Command
  -- a number of lines generated from a seed
  generates : ℕ → ℕ → Command
  -- the failures of a user under a root
  tallies : List ℕ → List ℕ → Command
  -- whether a transcript fits a service under a root
  audits : List ℕ → List ℕ → Command
  -- the calls of a front end, as frames, under a root
  wires : List ℕ → Command

-- an argument that isn't empty and doesn't begin with a dash
abbrev pub is_operand : List ℕ → Bool
is_operand [] = false
is_operand (b ∷ bs) = not (nat_eq b 45)

abbrev pub is_service : List ℕ → Bool
is_service word = is_operand word && is_service_name word

-- an argument that can be the name of a user's tally
abbrev pub is_user : List ℕ → Bool
is_user word = is_operand word && not (is_no_file word)

abbrev pub is_target : List ℕ → List ℕ → Bool
is_target root service = is_operand root && is_operand service && is_service_name service

-- a number in decimal digits without a leading zero, of at most 32 bits
abbrev pub begins_with_zero : List ℕ → Bool
begins_with_zero (first ∷ second ∷ digits) = nat_eq first 48
begins_with_zero digits = false

abbrev pub number_operand : List ℕ → Option ℕ
number_operand word = if begins_with_zero word then None else number_of_word word

-- from 1 to 4,096 lines
abbrev pub lines_command : Option ℕ → Option ℕ → Option Command
lines_command (Some seed) (Some lines) = if nat_le 1 lines && nat_le lines 4096
    then Some (generates seed lines) else None
lines_command seed lines = None

-- the command of this name
abbrev pub name_in : List ℕ → Option Name
name_in word =
    if bytes_eq word (codes "run") then Some Run
    else if bytes_eq word (codes "check") then Some Check
    else if bytes_eq word (codes "login") then Some Login
    else if bytes_eq word (codes "generate") then Some Generate
    else if bytes_eq word (codes "tally") then Some Tally
    else if bytes_eq word (codes "audit") then Some Audit
    else if bytes_eq word (codes "wire") then Some Wire
    else None

-- what a command asks for with these operands, in the order of pamsess(1)
abbrev pub command_with : Option Name → List (String Global) → Option Command
command_with (Some Run) (root ∷ []) =
    if is_operand (string_bytes root) then Some (runs (string_bytes root)) else None
command_with (Some Check) (root ∷ service ∷ []) =
    if is_operand (string_bytes root) && is_service (string_bytes service)
    then Some (checks (string_bytes root) (string_bytes service)) else None
command_with (Some Login) (root ∷ service ∷ []) =
    if is_target (string_bytes root) (string_bytes service)
    then Some (logs_in (string_bytes root) (string_bytes service) None) else None
command_with (Some Login) (root ∷ service ∷ user ∷ []) =
    if is_operand (string_bytes user) && is_target (string_bytes root) (string_bytes service)
    then Some (logs_in (string_bytes root) (string_bytes service) (Some (string_bytes user)))
    else None
command_with (Some Generate) (seed ∷ lines ∷ []) =
    lines_command (number_operand (string_bytes seed)) (number_operand (string_bytes lines))
command_with (Some Tally) (root ∷ user ∷ []) =
    if is_operand (string_bytes root) && is_user (string_bytes user)
    then Some (tallies (string_bytes root) (string_bytes user)) else None
command_with (Some Audit) (root ∷ service ∷ []) =
    if is_operand (string_bytes root) && is_service (string_bytes service)
    then Some (audits (string_bytes root) (string_bytes service)) else None
command_with (Some Wire) (root ∷ []) =
    if is_operand (string_bytes root) then Some (wires (string_bytes root)) else None
command_with name operands = None

abbrev pub command_of : List (String Global) → Option Command
command_of [] = None
command_of (command ∷ operands) = command_with (name_in (string_bytes command)) operands

abbrev pub usage : List ℕ
usage = codes "usage: pamsess run ROOT | check ROOT SERVICE | login ROOT SERVICE [USER] | generate SEED LINES | tally ROOT USER | audit ROOT SERVICE | wire ROOT\n"
