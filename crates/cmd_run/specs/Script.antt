-- The lines of a script, as the items of a stream (this project's own).
use Rattle.std.specs.Prelude.{ℕ, List, Result, Err, nat_le, if◌then◌else◌}
use Rattle.pam_base.specs.declared.fault.ScriptKind.{ScriptKind}
use Rattle.pam_base.specs.declared.fault.ScriptKind.TheVariants.{TooManyLines}
use Rattle.script_lang.specs.declared.line.Line.{Line}
use Rattle.script_lang.specs.Line.{parsed}
use Rattle.record_reader.specs.Run.{ItemStep}
use Rattle.record_reader.specs.LineRun.{step_at}
use Rattle.cmd_run.specs.State.{RunState, Setting}
use Rattle.cmd_run.specs.Step.{line_step}

-- what a line asks for that follows n others
abbrev pub line_asked : ℕ → List ℕ → Result Line ScriptKind
line_asked n line = if nat_le 65536 n then Err TooManyLines else parsed line

-- its effect
abbrev pub script_step : Setting → ItemStep RunState ScriptKind
script_step setting = step_at (line_step setting)

-- a report is written as it is
abbrev pub as_it_is : List ℕ → List ℕ
as_it_is text = text
