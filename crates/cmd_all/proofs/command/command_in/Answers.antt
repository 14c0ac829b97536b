use Rattle.std.proofs.Common.{arith}
use Rattle.std.proofs.lemmas.Grind.{common_steps}
use Rattle.cmd_all.proofs.command.command_in.Goals as goal
use Rattle.cmd_all.proofs.command.command_in.Goals.{in_default-via-in-Run+then-operands-lt1, in_default-via-in-Run-len1+else-is_operand}
use Rattle.cmd_all.proofs.command.command_in.Goals.{in_default-via-in-Run+else-operands-lt1+else-this-lt2}
use Rattle.cmd_all.proofs.command.command_in.Goals.{in_default-via-in-Check+then-this-lt2-2}
use Rattle.cmd_all.proofs.command.command_in.Goals.{in_default-via-in-Check-len2+then-is_operand-2+else-is_service}
use Rattle.cmd_all.proofs.command.command_in.Goals.{in_default-via-in-Check-len2+else-is_operand-2}
use Rattle.cmd_all.proofs.command.command_in.Goals.{in_default-via-in-Check+else-this-lt2-2+else-this-lt3}
use Rattle.cmd_all.proofs.command.command_in.Goals.{in_default-via-in-Login+then-this-lt2-3, in_default-via-in-Login-len3+else-is_operand-3}
use Rattle.cmd_all.proofs.command.command_in.Goals.{in_default-via-in-Login+else-this-lt2-3+else-this-lt3-2+else-this-lt4}
use Rattle.cmd_all.proofs.command.command_in.Goals.{in_default-via-in-Generate+then-this-lt2-4}
use Rattle.cmd_all.proofs.command.command_in.Goals.{in_default-via-in-Generate+else-this-lt2-4+else-this-lt3-3}
use Rattle.cmd_all.proofs.command.command_in.Goals.{in_default-via-in-Tally+then-this-lt2-5}
use Rattle.cmd_all.proofs.command.command_in.Goals.{in_default-via-in-Tally-len2+then-is_operand-4+else-is_user}
use Rattle.cmd_all.proofs.command.command_in.Goals.{in_default-via-in-Tally-len2+else-is_operand-4}
use Rattle.cmd_all.proofs.command.command_in.Goals.{in_default-via-in-Tally+else-this-lt2-5+else-this-lt3-4}
use Rattle.cmd_all.proofs.command.command_in.Goals.{in_default-via-in-Audit+then-this-lt2-6}
use Rattle.cmd_all.proofs.command.command_in.Goals.{in_default-via-in-Audit-len2+then-is_operand-5+else-is_service-2}
use Rattle.cmd_all.proofs.command.command_in.Goals.{in_default-via-in-Audit-len2+else-is_operand-5}
use Rattle.cmd_all.proofs.command.command_in.Goals.{in_default-via-in-Audit+else-this-lt2-6+else-this-lt3-5}
use Rattle.cmd_all.proofs.command.command_in.Goals.{in_default-via-in-Wire+then-this-lt1, in_default-via-in-Wire-len1+else-is_operand-6}
use Rattle.cmd_all.proofs.command.command_in.Goals.{in_default-via-in-Wire+else-this-lt1+else-this-lt2-7}

pub returns-in_default : goal.returns-in_default
returns-in_default c = elim c.in_default.branch [
  | in_default-via-in-Run+then-operands-lt1 w ↦ grind (arith, common_steps)
  | in_default-via-in-Run-len1+else-is_operand w ↦ grind (arith, common_steps)
  | in_default-via-in-Run+else-operands-lt1+else-this-lt2 w ↦ grind (arith, common_steps)
  | in_default-via-in-Check+then-this-lt2-2 w ↦ grind (arith, common_steps)
  | in_default-via-in-Check-len2+then-is_operand-2+else-is_service w ↦ grind (arith, common_steps)
  | in_default-via-in-Check-len2+else-is_operand-2 w ↦ grind (arith, common_steps)
  | in_default-via-in-Check+else-this-lt2-2+else-this-lt3 w ↦ grind (arith, common_steps)
  | in_default-via-in-Login+then-this-lt2-3 w ↦ grind (arith, common_steps)
  | in_default-via-in-Login-len3+else-is_operand-3 w ↦ grind (arith, common_steps)
  | in_default-via-in-Login+else-this-lt2-3+else-this-lt3-2+else-this-lt4 w ↦ grind (arith, common_steps)
  | in_default-via-in-Generate+then-this-lt2-4 w ↦ grind (arith, common_steps)
  | in_default-via-in-Generate+else-this-lt2-4+else-this-lt3-3 w ↦ grind (arith, common_steps)
  | in_default-via-in-Tally+then-this-lt2-5 w ↦ grind (arith, common_steps)
  | in_default-via-in-Tally-len2+then-is_operand-4+else-is_user w ↦ grind (arith, common_steps)
  | in_default-via-in-Tally-len2+else-is_operand-4 w ↦ grind (arith, common_steps)
  | in_default-via-in-Tally+else-this-lt2-5+else-this-lt3-4 w ↦ grind (arith, common_steps)
  | in_default-via-in-Audit+then-this-lt2-6 w ↦ grind (arith, common_steps)
  | in_default-via-in-Audit-len2+then-is_operand-5+else-is_service-2 w ↦ grind (arith, common_steps)
  | in_default-via-in-Audit-len2+else-is_operand-5 w ↦ grind (arith, common_steps)
  | in_default-via-in-Audit+else-this-lt2-6+else-this-lt3-5 w ↦ grind (arith, common_steps)
  | in_default-via-in-Wire+then-this-lt1 w ↦ grind (arith, common_steps)
  | in_default-via-in-Wire-len1+else-is_operand-6 w ↦ grind (arith, common_steps)
  | in_default-via-in-Wire+else-this-lt1+else-this-lt2-7 w ↦ grind (arith, common_steps)
]
