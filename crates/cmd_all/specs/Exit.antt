-- The exit statuses (pamsess(1), "EXIT STATUS"), and the one after each result of a command.
use Rattle.std.specs.Prelude.{ℕ, Result, Ok, Err}
use Rattle.pam_base.specs.declared.fault.ScriptKind.{ScriptKind}
use Rattle.record_reader.specs.declared.ending.Ending.{Ending}
use Rattle.record_reader.specs.declared.ending.Ending.TheVariants as endings
use Rattle.record_reader.specs.declared.ending.Stop.{Stop}
use Rattle.record_reader.specs.declared.ending.Stop.TheVariants as stops
use Rattle.cmd_check.specs.declared.finding.Checked.{Checked}
use Rattle.cmd_check.specs.declared.finding.Checked.TheVariants as founds
use Rattle.cmd_login.specs.declared.attempt.Verdict.{Verdict}
use Rattle.cmd_login.specs.declared.attempt.Verdict.TheVariants as verdicts
use Rattle.cmd_generate.specs.declared.generating.Generated.{Generated}
use Rattle.cmd_generate.specs.declared.generating.Generated.TheVariants as generations
use Rattle.cmd_tally.specs.declared.finding.Tallied.{Tallied}
use Rattle.cmd_tally.specs.declared.finding.Tallied.TheVariants as lists
use Rattle.cmd_audit.specs.declared.finding.Audited.{Audited}
use Rattle.cmd_audit.specs.declared.finding.Audited.TheVariants as audits
use Rattle.cmd_wire.specs.frame_stream.specs.declared.fault.FrameFault.{FrameFault}
use Rattle.cmd_wire.specs.frame_stream.specs.declared.fault.FrameFault.TheVariants as frames
use Rattle.cmd_all.specs.declared.exit.Exit.{Exit}
use Rattle.cmd_all.specs.declared.exit.Exit.TheVariants.{Done, Usage, ConfigRefused, NoMemory, ReadFault, WriteFault, LineRefused, Denied, TallyDamaged, TallyUnread, ReportDiffers, ReportTooLong, BadFrame, TooManyFrames}

-- the numbers, as the manual page has them
abbrev pub exit_status : Exit → ℕ
exit_status Done = 0
exit_status Usage = 2
exit_status ConfigRefused = 3
exit_status NoMemory = 4
exit_status ReadFault = 5
exit_status WriteFault = 6
exit_status LineRefused = 7
exit_status Denied = 8
exit_status TallyDamaged = 9
exit_status TallyUnread = 10
exit_status ReportDiffers = 11
exit_status ReportTooLong = 12
exit_status BadFrame = 13
exit_status TooManyFrames = 14

-- any command, if it stopped early
abbrev pub stop_exit : Stop → Exit
stop_exit stops.NoMemory = NoMemory
stop_exit stops.WriteFault = WriteFault

-- run
abbrev pub script_exit : Result (Ending ScriptKind) Stop → Exit
script_exit (Ok endings.Done) = Done
script_exit (Ok endings.ReadFault) = ReadFault
script_exit (Ok (endings.Refused kind)) = LineRefused
script_exit (Err stop) = stop_exit stop

-- check
abbrev pub check_exit : Result Checked Stop → Exit
check_exit (Ok founds.Configured) = Done
check_exit (Ok founds.Refused) = ConfigRefused
check_exit (Err stop) = stop_exit stop

-- login
abbrev pub login_exit : Result Verdict Stop → Exit
login_exit (Ok verdicts.Passed) = Done
login_exit (Ok verdicts.Refused) = ConfigRefused
login_exit (Ok (verdicts.Denied code)) = Denied
login_exit (Err stop) = stop_exit stop

-- generate
abbrev pub generate_exit : Result Generated Stop → Exit
generate_exit (Ok generations.Written) = Done
generate_exit (Ok generations.Refused) = ConfigRefused
generate_exit (Err stop) = stop_exit stop

-- tally
abbrev pub tally_exit : Result Tallied Stop → Exit
tally_exit (Ok lists.Listed) = Done
tally_exit (Ok lists.Damaged) = TallyDamaged
tally_exit (Ok lists.Unread) = TallyUnread
tally_exit (Err stop) = stop_exit stop

-- audit
abbrev pub audit_exit : Result Audited Stop → Exit
audit_exit (Ok audits.Fits) = Done
audit_exit (Ok audits.Differs) = ReportDiffers
audit_exit (Ok audits.Refused) = ConfigRefused
audit_exit (Ok audits.TooLong) = ReportTooLong
audit_exit (Ok audits.Unread) = ReadFault
audit_exit (Err stop) = stop_exit stop

-- wire
abbrev pub frames_exit : Result (Ending FrameFault) Stop → Exit
frames_exit (Ok endings.Done) = Done
frames_exit (Ok endings.ReadFault) = ReadFault
frames_exit (Ok (endings.Refused frames.BadFrame)) = BadFrame
frames_exit (Ok (endings.Refused frames.TooManyFrames)) = TooManyFrames
frames_exit (Err stop) = stop_exit stop
