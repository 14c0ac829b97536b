-- The report of a step (this project's own): what happened, in this order, and its result.
use Rattle.std.specs.Prelude.{ℕ, List, ◌++◌}
use Rattle.pam_base.specs.declared.call.Step.{Step}
use Rattle.pam_library.specs.data_cleanup.specs.Ledger.{PlainLedger}
use Rattle.report_lines.specs.script_lang.specs.Command.{word_of_call}
use Rattle.pam_library.specs.Outcome.{PlainOutcome}
use Rattle.report_step.specs.Said.{messages_text}
use Rattle.report_step.specs.Visited.{visits_text}
use Rattle.report_step.specs.Cleaned.{cleanups_text}
use Rattle.report_step.specs.Waited.{waited_text}
use Rattle.report_step.specs.Missing.{all_missing_text}
use Rattle.report_step.specs.Answered.{answer_text}

-- the modules have these names, by their numbers from 0, and the cleanup log is that after the step
abbrev pub step_text : List (List ℕ) → Step → PlainOutcome → PlainLedger → List ℕ
step_text names step outcome ledger =
    messages_text step.number outcome.said
    ++ (visits_text step.number outcome.trail
    ++ (cleanups_text step.number names ledger outcome.filed_from
    ++ (waited_text step.number outcome.wait
    ++ (all_missing_text step.number outcome.missing
    ++ answer_text step.number (word_of_call step.call) outcome.answer))))
