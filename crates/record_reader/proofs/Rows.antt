-- Test cases of runs, computed, for a step that counts lines, writes each as it is, and refuses the
-- line x.
use Rattle.std.specs.Prelude.{◌≡◌, ℕ, zero, suc, ◌+◌, Bool, true, false, List, [], ◌∷◌, ◌++◌, Some, None, Ok, Err, codes, refl, if◌then◌else◌}
use Rattle.std.specs.Str.{bytes_eq}
use Rattle.pam_base.specs.declared.fault.ScriptKind.TheVariants.{BadWord, LineTooLong, TooManyLines}
use Rattle.pam_base.specs.Lines.{cut}
use Rattle.record_reader.specs.Looked.{last_looked, looked}
use Rattle.record_reader.specs.Run.{come_to, run_items, run_of as run_of_items}
use Rattle.record_reader.specs.LineRun.{LineStep, Run, step_at, run_of}

echo : LineStep ℕ
echo n count line = if bytes_eq line (codes "x") then Err BadWord else Ok (count + 1, line ++ codes "\n")

ran : List ℕ → Bool → Run ℕ
ran bytes ended = run_of echo 0 0 bytes ended

bytes_of : ℕ → List ℕ
bytes_of zero = []
bytes_of (suc n) = 97 ∷ bytes_of n

last_line_needs_no_newline : ran (codes "a\nb") true ≡ come_to (codes "a\nb\n") 2 2 None
unfolding ran echo run_of_items run_items step_at looked last_looked cut
last_line_needs_no_newline = refl

last_line_waits_for_the_end : ran (codes "a\nb") false ≡ come_to (codes "a\n") 1 1 None
unfolding ran echo run_of_items run_items step_at looked last_looked cut
last_line_waits_for_the_end = refl

first_refused_line_ends_it : ran (codes "a\nx\nc\nx") true ≡ come_to (codes "a\n") 1 1 (Some BadWord)
unfolding ran echo run_of_items run_items step_at looked last_looked cut
first_refused_line_ends_it = refl

empty_lines_are_lines : ran (codes "\n\n") true ≡ come_to (codes "\n\n") 2 2 None
unfolding ran echo run_of_items run_items step_at looked last_looked cut
empty_lines_are_lines = refl

held_513_bytes_wait : ran (bytes_of 513) false ≡ come_to [] 0 0 None
unfolding ran echo bytes_of run_of_items run_items step_at looked last_looked cut
held_513_bytes_wait = refl

held_514_bytes_are_too_long : ran (bytes_of 514) false ≡ come_to [] 0 0 (Some LineTooLong)
unfolding ran echo bytes_of run_of_items run_items step_at looked last_looked cut
held_514_bytes_are_too_long = refl

first_byte_begins_a_line_too_many : run_of echo 65536 0 (codes "a") false ≡ come_to [] 0 65536 (Some TooManyLines)
unfolding echo run_of_items run_items step_at looked last_looked cut
first_byte_begins_a_line_too_many = refl
