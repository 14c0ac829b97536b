-- A byte of a quoted text: the state after it, and the byte that it completes, if any.
use Rattle.std.specs.Prelude.{ℕ, ◌+◌, ◌*◌, ◌%◌, nat_eq, if◌then◌else◌, List, [], ◌∷◌}
use Rattle.std.specs.Char.{digit_value}
use Rattle.report_lines.specs.declared.read_quoted.Reading.{Reading}
use Rattle.report_lines.specs.declared.read_quoted.Reading.TheVariants as readings
use Rattle.report_lines.specs.Words.{Unquoting, between, escaped, coded, half_coded}

abbrev pub state_of : Reading → Unquoting
state_of readings.Between = between
state_of readings.Escaped = escaped
state_of readings.Coded = coded
state_of (readings.HalfCoded high) = half_coded high

abbrev pub state_past : Unquoting → ℕ → Unquoting
state_past between b = if nat_eq b 92 then escaped else between
state_past escaped b = if nat_eq b 120 then coded else between
state_past coded b = half_coded (digit_value b)
state_past (half_coded high) b = between

abbrev pub bytes_after : Unquoting → ℕ → List ℕ
bytes_after between b = if nat_eq b 92 then [] else (b % 256) ∷ []
bytes_after escaped b = if nat_eq b 120 then [] else (b % 256) ∷ []
bytes_after coded b = []
bytes_after (half_coded high) b = ((16 * high + digit_value b) % 256) ∷ []
