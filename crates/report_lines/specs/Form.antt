-- What is read from a line, in terms of the report's lines: contents that don't count are left out.
use Rattle.std.specs.Prelude.{◌≡◌, IfOk, List, [], ◌∷◌, Option, Some, None, Result}
use Rattle.std.specs.Option.{option_map}
use Rattle.pam_base.specs.declared.code.Code.TheVariants as codes
use Rattle.pam_base.specs.declared.call.CallName.{CallName}
use Rattle.pam_base.specs.declared.call.CallName.TheVariants as names
use Rattle.pam_base.specs.declared.fault.FaultKind.TheVariants.{OpenBracket}
use Rattle.pam_base.specs.declared.fault.NoMemory.{NoMemory}
use Rattle.service_load.specs.FirstFault.{fault_at}
use Rattle.handler_chain.specs.declared.seen.RecordedLine.{RecordedLine}
use Rattle.handler_chain.specs.Seen.{seen_of}
use Rattle.report_lines.specs.Line as lines
use Rattle.report_lines.specs.declared.form.ReportedAnswer.{ReportedAnswer}
use Rattle.report_lines.specs.declared.form.ReportedAnswer.TheVariants as answers
use Rattle.report_lines.specs.declared.form.ReportedOutcome.{ReportedOutcome}
use Rattle.report_lines.specs.declared.form.ReportedOutcome.TheVariants as outcomes
use Rattle.report_lines.specs.declared.form.Form.{Form}
use Rattle.report_lines.specs.declared.form.Form.TheVariants as forms
use Rattle.report_lines.specs.Says.{Says, tells, results, lasts, bare}

abbrev pub command_of : CallName → lines.Command
command_of names.Start = lines.starts
command_of names.End = lines.ends
command_of (names.Run func) = lines.runs func
command_of names.SetItem = lines.sets_item
command_of names.GetItem = lines.gets_item
command_of names.PutEnv = lines.puts_env
command_of names.GetEnv = lines.gets_env
command_of names.EnvList = lines.lists_env
command_of names.FailDelay = lines.asks_delay
command_of names.DelayFn = lines.switches_delay
command_of names.Reply = lines.replies

abbrev pub shown_of : ReportedAnswer → lines.Shown
shown_of (answers.Code code) = lines.shows_code code
shown_of answers.Fault = lines.shows_fault (fault_at [] 0 OpenBracket)
shown_of answers.Value = lines.shows_value None
shown_of answers.Count = lines.shows_count 0
shown_of answers.NotOpen = lines.shows_not_open
shown_of answers.AlreadyOpen = lines.shows_already_open
shown_of answers.BadNumber = lines.shows_bad_number
shown_of (answers.Pending func) = lines.shows_pending func

abbrev pub result_of : ReportedOutcome → lines.Result
result_of (outcomes.Answered command answer) = lines.answered (command_of command) (shown_of answer)
result_of outcomes.Closed = lines.closed_by_program codes.Success

abbrev pub told_of : Option RecordedLine → lines.ToldLine
told_of None = lines.told_missing []
told_of (Some v) = lines.told_visit (seen_of v)

abbrev pub says_of : Form → Says
says_of (forms.Told number visit) = tells number (told_of visit)
says_of (forms.Result number outcome) = results number (result_of outcome)
says_of forms.Last = lasts lines.unread

-- the part that counts is the same in what is read and in this
abbrev pub IsRead : Option Form → Option Says → Type 0
IsRead form s = option_map says_of form ≡ option_map bare s

-- the same, unless an allocation failed
abbrev pub Reads : Result (Option Form) NoMemory → Option Says → Type 0
Reads result s = IfOk result (λ form. IsRead form s)
