-- Which lines may be applied (this project's own).
use Rattle.std.specs.Prelude.{◌≤◌, IsTrue, ⊤}
use Rattle.pam_base.specs.Call.{is_fit}
use Rattle.script_lang.specs.declared.line.Line.{Line}
use Rattle.script_lang.specs.declared.line.Line.TheVariants as lines

-- a line whose step may be asked for, or whose time is one that a clock can be set to
abbrev pub IsFit : Line → Type 0
IsFit (lines.Step step) = IsTrue (is_fit step.call)
IsFit (lines.At moment) = moment ≤ 1000000000000
IsFit other = ⊤
