-- A transaction does what it would do alone (this project's own): a script in which each step on
-- another number is a blank line, and the results of the steps on a number in a run.
use Rattle.std.specs.Prelude.{◌≡◌, ℕ, zero, suc, ◌+◌, Bool, true, false, not, nat_eq, if◌then◌else◌, List, [], ◌∷◌, ◌++◌, map, length, take, drop, codes, slice_get, unwrap_or, Option, Some, None, Result, Ok, Err}
use Rattle.std.specs.List.{flat_map, range_with_len}
use Rattle.std.specs.Fmt.{decimal}
use Rattle.pam_base.specs.declared.code.Code.{Code}
use Rattle.pam_base.specs.declared.call.Step.{Step}
use Rattle.pam_base.specs.declared.fault.ScriptKind.{ScriptKind}
use Rattle.pam_base.specs.Lines.{lines_of}
use Rattle.pam_base.specs.Quote.{quoted_text}
use Rattle.data_cleanup.specs.Ledger.{PlainLedger}
use Rattle.data_cleanup.specs.declared.datum.Birth.{Birth}
use Rattle.data_cleanup.specs.declared.receipt.Filed.{Filed}
use Rattle.data_cleanup.specs.declared.receipt.Receipt.{Receipt}
use Rattle.report_step.specs.dispatch_core.specs.Lines.{names_of}
use Rattle.report_step.specs.pam_library.specs.Alike.{AreInOrder, NoCallFails, births_on, receipts_on, told_in}
use Rattle.report_step.specs.pam_library.specs.Outcome.{PlainOutcome}
use Rattle.report_step.specs.pam_library.specs.Slots.{PlainSlot, closed, opened}
use Rattle.report_step.specs.pam_room.specs.Module.{Player}
use Rattle.report_step.specs.pam_room.specs.State.{PlainWorld}
use Rattle.report_step.specs.pam_library.specs.Step.{stepped}
use Rattle.script_lang.specs.Command.{word_of_call}
use Rattle.script_lang.specs.declared.line.Line.{Line}
use Rattle.script_lang.specs.declared.line.Line.TheVariants as lines
use Rattle.script_lang.specs.Line.{parsed}
use Rattle.record_reader.specs.LineRun.{run_lines, step_at}
use Rattle.report_step.specs.Answered.{answer_text}
use Rattle.report_step.specs.report_lines.specs.Line.{code_words, number_words, status_words, words_text}
use Rattle.report_step.specs.Missing.{all_missing_text}
use Rattle.report_step.specs.Said.{messages_text}
use Rattle.report_step.specs.Step.{step_text}
use Rattle.report_step.specs.Visited.{visits_text}
use Rattle.report_step.specs.Waited.{waited_text}
use Rattle.cmd_run.specs.Closings.{all_closed, closings as all_closings, closings_text, world_after}
use Rattle.cmd_run.specs.State.{Setting, RunState, kept_at}
use Rattle.cmd_run.specs.Step.{line_step}

-- ---- the script of one number

-- the step that a line is, if it is one
abbrev pub step_in : Result Line ScriptKind → Option Step
step_in (Ok (lines.Step step)) = Some step
step_in line = None

abbrev pub is_on : ℕ → Option Step → Bool
is_on number None = false
is_on number (Some step) = nat_eq step.number number

abbrev pub is_on_another : ℕ → Option Step → Bool
is_on_another number None = false
is_on_another number (Some step) = not (nat_eq step.number number)

-- a blank line takes the place of a step on another number; every other line stays
abbrev pub line_alone : ℕ → List ℕ → List ℕ
line_alone number line = if is_on_another number (step_in (parsed line)) then [] else line

abbrev pub alone : ℕ → List (List ℕ) → List (List ℕ)
alone number lines = map (line_alone number) lines

abbrev pub with_newline : List ℕ → List ℕ
with_newline line = line ++ 10 ∷ []

-- the same as a text
abbrev pub script_alone : ℕ → List ℕ → List ℕ
script_alone number text = flat_map with_newline (alone number (lines_of text))

-- ---- the results of the steps on a number in a run

-- a step, what it reported and returned, and the cleanup log after it
pub record MadeStep : Type 0 where
  pub step : Step
  pub outcome : PlainOutcome
  pub ledger : PlainLedger

-- after a line: its result, and what the lines after it do; nothing follows a refused line
abbrev pub steps_then : {A : Type 0} → Result (RunState × List ℕ) ScriptKind → (List ℕ → List A)
    → (RunState → List A) → List A
steps_then (Ok x) here next = here x.1 ++ next x.0
steps_then (Err kind) here next = []

abbrev pub FilesStay : Result (RunState × List ℕ) ScriptKind → Bool → RunState → (RunState → Type 0)
    → Type 0
FilesStay (Ok x) another s Next = (another ≡ true → x.0.world.vault.files ≡ s.world.vault.files)
    × Next x.0
FilesStay (Err kind) another s Next = Unit {0}

module _ (setting : Setting) where
  abbrev pub made_step : RunState → Step → MadeStep
  made_step s step = let t = stepped setting.players setting.delay s.slots s.world step in
      record { step = step; outcome = t.outcome; ledger = t.world.process.ledger }

  module _ (number : ℕ) where
    abbrev pub made_steps : RunState → Option Step → List MadeStep
    made_steps s None = []
    made_steps s (Some step) = if nat_eq step.number number then made_step s step ∷ [] else []

    -- the steps on the number, in order, among lines that have n lines before them
    abbrev pub steps_among : ℕ → RunState → List (List ℕ) → List MadeStep
    steps_among n s [] = []
    steps_among n s (l ∷ ls) = steps_then (step_at (line_step setting) n s l) (λ text.
        made_steps (kept_at setting n s) (step_in (parsed l))) (λ t. steps_among (n + 1) t ls)

    -- what the run writes for them
    abbrev pub texts_among : ℕ → RunState → List (List ℕ) → List (List ℕ)
    texts_among n s [] = []
    texts_among n s (l ∷ ls) = steps_then (step_at (line_step setting) n s l) (λ text.
        if is_on number (step_in (parsed l)) then text ∷ [] else []) (λ t. texts_among (n + 1) t ls)

    -- no step on another number changes a file
    abbrev pub LeaveFiles : ℕ → RunState → List (List ℕ) → Type 0
    LeaveFiles n s [] = Unit {0}
    LeaveFiles n s (l ∷ ls) =
        FilesStay (step_at (line_step setting) n s l) (is_on_another number (step_in (parsed l))) s
        (λ t. LeaveFiles (n + 1) t ls)

-- a run may begin here: slots and cleanup log belong together, and no call of `Vault` is set to
-- fail
pub record IsQuietStart (s : RunState) : Type 0 where
  pub order : AreInOrder s.slots s.world.process.ledger
  pub quiet : NoCallFails s.world.vault

-- ---- the lines of the report, with the ids of data written by these words

module _ (id_words : ℕ → List ℕ) (handle : ℕ) (names : List (List ℕ)) where
  abbrev pub receipt_text_with : Receipt → Option Birth → List ℕ
  receipt_text_with receipt (Some birth) =
      decimal handle ++ (codes " clean " ++ (id_words receipt.id
      ++ (codes " " ++ (status_words receipt.status
      ++ (codes " " ++ (number_words receipt.note ++ (codes " "
      ++ (quoted_text (unwrap_or (slice_get names birth.owner) [])
      ++ (codes " " ++ (quoted_text birth.name ++ codes "\n"))))))))))
  receipt_text_with receipt None = []

  abbrev pub filed_text_with : List Birth → Filed → List ℕ
  filed_text_with births filed = receipt_text_with filed.receipt (slice_get births filed.receipt.id)

abbrev pub step_text_with : (ℕ → List ℕ) → List (List ℕ) → MadeStep → List ℕ
step_text_with id_words names c =
    messages_text c.step.number c.outcome.said
    ++ (visits_text c.step.number c.outcome.trail
    ++ (flat_map (filed_text_with id_words c.step.number names c.ledger.births)
    (drop c.outcome.filed_from c.ledger.filed)
    ++ (waited_text c.step.number c.outcome.wait
    ++ (all_missing_text c.step.number c.outcome.missing
    ++ answer_text c.step.number (word_of_call c.step.call) c.outcome.answer))))

-- the same with every id left out
abbrev pub text_without_ids : List (List ℕ) → MadeStep → List ℕ
text_without_ids names c = step_text_with (λ (id : ℕ). []) names c

-- the text in the report
abbrev pub text_of : List (List ℕ) → MadeStep → List ℕ
text_of names c = step_text names c.step c.outcome c.ledger

-- ---- the lines with which the program closes a number after the lines of a script

module _ (players : List Player) (status : Code) where
  -- what the end of a slot leaves, if it is open
  abbrev pub world_left : PlainSlot → PlainWorld → PlainWorld
  world_left (closed conv) w = w
  world_left (opened h) w = world_after players status h w

  -- the world when some slots are closed, one after another
  unfoldable pub world_after_places : List PlainSlot → PlainWorld → PlainWorld
  world_after_places [] w = w
  world_after_places (slot ∷ slots) w = world_after_places slots (world_left slot w)

  -- the text of an implicit end: what it cleaned up, and H closed NAME NUMBER; a closed slot has none
  abbrev pub closed_text_with : (ℕ → List ℕ) → ℕ → PlainWorld → Option PlainSlot → List ℕ
  closed_text_with id_words number w None = []
  closed_text_with id_words number w (Some (closed conv)) = []
  closed_text_with id_words number w (Some (opened h)) =
      let after = (world_after players status h w).process.ledger in
      flat_map (filed_text_with id_words number (names_of players) after.births)
      (drop (length w.process.ledger.filed) after.filed)
      ++ words_text number (codes "closed") (code_words status)

  -- of a number, when all lower ones are closed
  abbrev pub closing_text_with : (ℕ → List ℕ) → RunState → ℕ → List ℕ
  closing_text_with id_words s zero = []
  closing_text_with id_words s (suc i) =
      closed_text_with id_words (suc i) (world_after_places (take i s.slots) s.world)
      (slice_get s.slots i)

  abbrev pub closing_without_ids : RunState → ℕ → List ℕ
  closing_without_ids s number = closing_text_with (λ (id : ℕ). []) s number

  -- of all slots, from the first
  abbrev pub all_closing_texts : RunState → List ℕ
  all_closing_texts s =
      flat_map (closing_text_with number_words s) (range_with_len 1 (length s.slots))

-- ---- a transaction does what it would do alone

-- the state after the lines of a script, which follow n lines
abbrev pub state_past : Setting → ℕ → RunState → List (List ℕ) → RunState
state_past setting n s script = (run_lines (line_step setting) n s script).last

-- A run and that of the script of one number alone, from the same start: the number's steps report and return the same,
-- and its sets and cleanups are the same, in their order and except for ids and positions in the log, after the lines
-- and when all is ended after them. Its lines of the report are the same except for ids, also those with which the
-- program closes it. Both runs end at the same line and, if there is one, for the same fault.
pub record GoesAsAlone (setting : Setting) (number n : ℕ) (s : RunState)
    (script : List (List ℕ)) : Type 0 where
  pub outcomes : map (λ (c : MadeStep). told_in c.outcome) (steps_among setting number n s script)
      ≡ map (λ (c : MadeStep). told_in c.outcome) (steps_among setting number n s (alone number script))
  pub births : births_on number (state_past setting n s script).world.process.ledger.births
      ≡ births_on number (state_past setting n s
      (alone number script)).world.process.ledger.births
  pub receipts : receipts_on number (state_past setting n s script).world.process.ledger
      ≡ receipts_on number (state_past setting n s (alone number script)).world.process.ledger
  pub ended_births : (status : Code)
      → births_on number (all_closed setting.players status
      (state_past setting n s script)).world.process.ledger.births
      ≡ births_on number (all_closed setting.players status
      (state_past setting n s (alone number script))).world.process.ledger.births
  pub ended_receipts : (status : Code)
      → receipts_on number (all_closed setting.players status
      (state_past setting n s script)).world.process.ledger
      ≡ receipts_on number (all_closed setting.players status
      (state_past setting n s (alone number script))).world.process.ledger
  pub report : map (text_without_ids (names_of setting.players))
      (steps_among setting number n s script)
      ≡ map (text_without_ids (names_of setting.players))
      (steps_among setting number n s (alone number script))
  pub closing : (status : Code)
      → closing_without_ids setting.players status (state_past setting n s script) number
      ≡ closing_without_ids setting.players status (state_past setting n s (alone number script))
      number
  pub lines : (run_lines (line_step setting) n s script).items
      ≡ (run_lines (line_step setting) n s (alone number script)).items
  pub refused : (run_lines (line_step setting) n s script).refused
      ≡ (run_lines (line_step setting) n s (alone number script)).refused

-- The same holds for each number, from a start with no planned failure, if no step on another
-- number changes a file.
pub record TransactionsGoAlone : Type 0 where
  pub goes : (setting : Setting) (number n : ℕ) (s : RunState) (script : List (List ℕ))
      → IsQuietStart s → LeaveFiles setting number n s script
      → GoesAsAlone setting number n s script
  -- what a run writes for the steps on a number, with the numbers of data sets left out
  pub texts : (setting : Setting) (number n : ℕ) (s : RunState) (script : List (List ℕ))
      → texts_among setting number n s script
      ≡ map (text_of (names_of setting.players)) (steps_among setting number n s script)
  pub words : (names : List (List ℕ)) (c : MadeStep)
      → step_text_with number_words names c ≡ text_of names c
  -- the reports of the implicit pam_end calls are those of the numbers, in order
  pub closings : (setting : Setting) (status : Code) (s : RunState)
      → closings_text (all_closings setting.players status s)
      ≡ all_closing_texts setting.players status s
  -- the lines of the script on one number, as a text
  pub script : (number : ℕ) (text : List ℕ)
      → lines_of (script_alone number text) ≡ alone number (lines_of text)
