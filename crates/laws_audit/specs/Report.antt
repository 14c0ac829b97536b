-- The report of a step as a block (this project's own). A value out of its type's range, which no program has, counts by its remainder.
use Rattle.std.specs.Prelude.{ℕ, List, [], ◌∷◌, ◌++◌, map, length, drop, slice_get, unwrap_or, Option, Some, None}
use Rattle.std.specs.List.{flat_map}
use Rattle.std.specs.Option.{option_map}
use Rattle.pam_base.specs.declared.code.Code.{Code}
use Rattle.pam_base.specs.declared.call.Func.TheVariants as funcs
use Rattle.pam_base.specs.declared.call.AppCall.{AppCall}
use Rattle.pam_base.specs.declared.call.AppCall.TheVariants as calls
use Rattle.pam_base.specs.declared.call.Step.{Step}
use Rattle.conv_port.specs.declared.message.Message.{Message}
use Rattle.data_cleanup.specs.Ledger.{PlainLedger}
use Rattle.data_cleanup.specs.declared.datum.Birth.{Birth}
use Rattle.data_cleanup.specs.declared.receipt.Receipt.{Receipt}
use Rattle.data_cleanup.specs.declared.receipt.Filed.{Filed}
use Rattle.pam_room.specs.declared.visits.Visit.{Visit}
use Rattle.pam_handle.specs.declared.wait.Wait.{Wait}
use Rattle.pam_library.specs.declared.outcome.Answer.{Answer}
use Rattle.pam_library.specs.declared.outcome.Answer.TheVariants as answers
use Rattle.pam_library.specs.Outcome.{PlainOutcome}
use Rattle.report_lines.specs.Line.{bytes_of, word_of, long_of, ToldLine, told_message, told_visit, told_cleanup, told_wait, told_missing, told_variable, Shown, shows_code, shows_fault, shows_value, shows_count, shows_not_open, shows_already_open, shows_bad_number, shows_pending, Command, starts, ends, runs, sets_item, gets_item, puts_env, gets_env, lists_env, asks_delay, switches_delay, replies, Block, block_of, answered, closed_by_program}
use Rattle.laws_audit.specs.Calls.{seen_of}

abbrev pub message_told : Message → ToldLine
message_told message = told_message message.style (bytes_of message.text)

abbrev pub visit_told : Visit → ToldLine
visit_told visit = told_visit (seen_of visit)

module _ (names : List (List ℕ)) where
  abbrev pub receipt_told : Receipt → Option Birth → List ToldLine
  receipt_told receipt (Some birth) = told_cleanup (record { id = long_of receipt.id; status = word_of receipt.status; note = long_of receipt.note; owner = bytes_of (unwrap_or (slice_get names birth.owner) []); datum = bytes_of birth.name }) ∷ []
  receipt_told receipt None = []

  abbrev pub filed_told : List Birth → Filed → List ToldLine
  filed_told births filed = receipt_told filed.receipt (slice_get births filed.receipt.id)

  abbrev pub cleanups_told : PlainLedger → ℕ → List ToldLine
  cleanups_told ledger filed_from = flat_map (filed_told ledger.births) (drop filed_from ledger.filed)

abbrev pub waited_told : Option Wait → List ToldLine
waited_told (Some wait) = told_wait wait.code (long_of wait.asked) (long_of wait.wait) ∷ []
waited_told None = []

abbrev pub variable_told : List ℕ → ToldLine
variable_told variable = told_variable (bytes_of variable)

abbrev pub missing_told : List ℕ → ToldLine
missing_told name = told_missing (bytes_of name)

abbrev pub variables_told : Answer → List ToldLine
variables_told (answers.List variables) = map variable_told variables
variables_told answer = []

abbrev pub all_told : List (List ℕ) → PlainOutcome → PlainLedger → List ToldLine
all_told names outcome ledger =
    map message_told outcome.said
    ++ (map visit_told outcome.trail
    ++ (cleanups_told names ledger outcome.filed_from
    ++ (waited_told outcome.wait
    ++ (map missing_told outcome.missing ++ variables_told outcome.answer))))

abbrev pub command_of : AppCall → Command
command_of (calls.Start service user) = starts
command_of (calls.End status) = ends
command_of (calls.Authenticate flags) = runs funcs.Authenticate
command_of (calls.SetCred flags) = runs funcs.SetCred
command_of (calls.AcctMgmt flags) = runs funcs.AcctMgmt
command_of (calls.OpenSession flags) = runs funcs.OpenSession
command_of (calls.CloseSession flags) = runs funcs.CloseSession
command_of (calls.ChAuthTok flags) = runs funcs.ChAuthTok
command_of (calls.SetItem item value) = sets_item
command_of (calls.GetItem item) = gets_item
command_of (calls.PutEnv text) = puts_env
command_of (calls.GetEnv name) = gets_env
command_of calls.EnvList = lists_env
command_of (calls.FailDelay micros) = asks_delay
command_of (calls.DelayFn on) = switches_delay
command_of (calls.Reply text) = replies

-- a step that writes nothing has no block
abbrev pub shown_of : Answer → Option Shown
shown_of (answers.Code code) = Some (shows_code code)
shown_of (answers.Refused fault) = Some (shows_fault (record fault { file = bytes_of fault.file; line = long_of fault.line }))
shown_of (answers.Value value) = Some (shows_value (option_map bytes_of value))
shown_of (answers.List variables) = Some (shows_count (long_of (length variables)))
shown_of answers.NotOpen = Some shows_not_open
shown_of answers.AlreadyOpen = Some shows_already_open
shown_of answers.BadNumber = Some shows_bad_number
shown_of (answers.Pending func) = Some (shows_pending func)
shown_of answers.Nothing = None

abbrev pub blocks_by : ℕ → Command → List ToldLine → Option Shown → List Block
blocks_by number command told (Some shown) = block_of number told (answered command shown) ∷ []
blocks_by number command told None = []

-- what is reported of a step
abbrev pub reported : List (List ℕ) → Step → PlainOutcome → PlainLedger → List Block
reported names step outcome ledger = blocks_by step.number (command_of step.call) (all_told names outcome ledger) (shown_of outcome.answer)

-- what is reported of a transaction that the program ended
abbrev pub closing_reported : List (List ℕ) → ℕ → Code → PlainLedger → ℕ → Block
closing_reported names handle status ledger filed_from = block_of handle (cleanups_told names ledger filed_from) (closed_by_program status)
