-- The wait after an authentication, pam_fail_delay(3) (the line is this project's own).
use Rattle.std.specs.Prelude.{ℕ, List, [], Option, Some, None}
use Rattle.pam_library.specs.pam_handle.specs.declared.wait.Wait.{Wait}
use Rattle.report_lines.specs.Line as lines

-- the line of a wait
abbrev pub wait_text : ℕ → Wait → List ℕ
wait_text handle wait = lines.wait_text handle wait.code wait.asked wait.wait

-- a line if there was a wait
abbrev pub waited_text : ℕ → Option Wait → List ℕ
waited_text handle (Some wait) = wait_text handle wait
waited_text handle None = []
