-- The calls that the commands make from the words at their places: the last column of the table
-- (this project's own; the calls are those of pam(3)).
use Rattle.pam_base.specs.declared.call.AppCall.{AppCall}
use Rattle.pam_base.specs.declared.call.AppCall.TheVariants as calls
use Rattle.pam_base.specs.declared.call.CallName.TheVariants as names
use Rattle.pam_base.specs.Call.{stack_call}
use Rattle.script_lang.specs.declared.command.Command.{Command}
use Rattle.script_lang.specs.declared.command.Command.TheVariants as commands
use Rattle.script_lang.specs.declared.line.Line.{Line}
use Rattle.script_lang.specs.declared.line.Line.TheVariants as lines
use Rattle.script_lang.specs.Value.{Meanings, number_of, wide_of, item_of, bytes_of, text_of, is_on}

-- a call on the transaction that the first word numbers
abbrev pub step : Meanings → AppCall → Line
step said call = lines.Step (record { number = number_of said.first; call = call })

abbrev pub line_made : Command → Meanings → Line
line_made (commands.Call names.Start) said = step said (calls.Start (bytes_of said.second) (text_of said.third))
line_made (commands.Call names.End) said = step said (calls.End (number_of said.second))
line_made (commands.Call (names.Run func)) said = step said (stack_call func (number_of said.second))
line_made (commands.Call names.SetItem) said =
    step said (calls.SetItem (item_of said.second) (text_of said.third))
line_made (commands.Call names.GetItem) said = step said (calls.GetItem (item_of said.second))
line_made (commands.Call names.PutEnv) said = step said (calls.PutEnv (bytes_of said.second))
line_made (commands.Call names.GetEnv) said = step said (calls.GetEnv (bytes_of said.second))
line_made (commands.Call names.EnvList) said = step said calls.EnvList
line_made (commands.Call names.FailDelay) said = step said (calls.FailDelay (number_of said.second))
line_made (commands.Call names.DelayFn) said = step said (calls.DelayFn (is_on said.second))
line_made (commands.Call names.Reply) said = step said (calls.Reply (bytes_of said.second))
line_made commands.At said = lines.At (wide_of said.first)
line_made commands.Random said = lines.Random (wide_of said.first)
line_made commands.Caller said = lines.Caller (number_of said.first)
