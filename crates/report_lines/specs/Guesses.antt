-- What a line may say, from the reader's types to those of the report's lines.
use Rattle.std.specs.Prelude.{◌≡◌, IfOk, Option, Result}
use Rattle.std.specs.Option.{option_map}
use Rattle.pam_base.specs.declared.fault.NoMemory.{NoMemory}
use Rattle.report_lines.specs.Line as lines
use Rattle.service_load.specs.FirstFault.{fault_at}
use Rattle.handler_chain.specs.Seen.{seen_of}
use Rattle.report_lines.specs.Form.{command_of}
use Rattle.report_lines.specs.Words.{before_space, after_space}
use Rattle.report_lines.specs.declared.read_told.ToldGuess.{ToldGuess}
use Rattle.report_lines.specs.declared.read_told.ToldGuess.TheVariants as told
use Rattle.report_lines.specs.declared.shown.ShownGuess.{ShownGuess}
use Rattle.report_lines.specs.declared.shown.ShownGuess.TheVariants as shown
use Rattle.report_lines.specs.declared.outcome.ResultGuess.{ResultGuess}
use Rattle.report_lines.specs.declared.outcome.ResultGuess.TheVariants as results

abbrev pub told_in : ToldGuess → lines.ToldLine
told_in (told.Message style text) = lines.told_message style text
told_in (told.Visit v) = lines.told_visit (seen_of v)
told_in (told.Cleanup id status note names) =
    lines.told_cleanup (record {
      id = id;
      status = status;
      note = note;
      owner = before_space names;
      datum = after_space names;
    })
told_in (told.Wait code asked wait) = lines.told_wait code asked wait
told_in (told.Missing name) = lines.told_missing name
told_in (told.Variable text) = lines.told_variable text

abbrev pub shown_in : ShownGuess → lines.Shown
shown_in (shown.Code code) = lines.shows_code code
shown_in (shown.Fault file line kind) = lines.shows_fault (fault_at file line kind)
shown_in (shown.Value value) = lines.shows_value value
shown_in (shown.Count count) = lines.shows_count count
shown_in shown.NotOpen = lines.shows_not_open
shown_in shown.AlreadyOpen = lines.shows_already_open
shown_in shown.BadNumber = lines.shows_bad_number
shown_in (shown.Pending func) = lines.shows_pending func

abbrev pub result_in : ResultGuess → lines.Result
result_in (results.Answered command guess) =
    lines.answered (command_of command) (shown_in guess)
result_in (results.Closed code) = lines.closed_by_program code

-- unless an allocation failed, this is what the line may say
abbrev pub IsToldGuess : Result (Option ToldGuess) NoMemory → Option lines.ToldLine → Type 0
IsToldGuess result t = IfOk result (λ guess. option_map told_in guess ≡ t)

abbrev pub IsShownGuess : Result ShownGuess NoMemory → lines.Shown → Type 0
IsShownGuess result s = IfOk result (λ guess. shown_in guess ≡ s)
