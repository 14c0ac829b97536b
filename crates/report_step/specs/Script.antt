-- The last line of a run that couldn't go on (this project's own).
use Rattle.std.specs.Prelude.{ℕ, List, Some}
use Rattle.report_lines.specs.Line.{last_text, unread}

-- reading the script failed
abbrev pub read_fault_text : List ℕ
read_fault_text = last_text (Some unread)
