-- The last line that is shown of a stack call has its return code (this project's own).
use Rattle.std.specs.Prelude.{◌≡◌, ℕ, false, List, ◌++◌, codes, Some}
use Rattle.std.specs.Fmt.{decimal}
use Rattle.pam_base.specs.declared.code.Code.{Code}
use Rattle.pam_base.specs.declared.call.Func.{Func}
use Rattle.pam_base.specs.Code.{name_of}
use Rattle.control_words.specs.Stack.{Stack}
use Rattle.service_load.specs.declared.rule_type.RuleType.{RuleType}
use Rattle.service_load.specs.Stacks.{Stacks}
use Rattle.handler_chain.specs.declared.pass_kind.PassKind.{PassKind}
use Rattle.handler_chain.specs.Pass.{pass_after}
use Rattle.handler_chain.specs.Retell.{Telling, replaying}
use Rattle.handler_chain.specs.Route.{KeptAnswers}
use Rattle.handler_chain.specs.Walk.{code_of}
use Rattle.pass_replay.specs.dispatch_core.specs.Calls.{Held, goes}
use Rattle.pass_replay.specs.Replay.{as_told}
use Rattle.report_lines.specs.Line.{ToldLine, answered, block_of, runs, shows_code}
use Rattle.session_audit.specs.Fits.{SlotLog, after_block, is_refused_change, place_at, running, visits_told}
use Rattle.explain_lines.specs.Origins.{Sources}
use Rattle.explain_lines.specs.Text.{pass_text}
use Rattle.explain_lines.specs.declared.origin.Origin.{Origin}
use Rattle.explain_calls.specs.Calls.{call_text}
use Rattle.explain_calls.specs.Rows.{pass_rows}
use Rattle.explain_report.specs.Report.{block_text}

-- why a run returned its code
pub data Why : Type 0 where
  no_rule : Why
  by_rule : ℕ → Why
  waits_at : ℕ → Why

abbrev pub why_words : Why → List ℕ
why_words no_rule = codes ", no rule counted\n"
why_words (by_rule n) = codes ", decided by rule " ++ (decimal n ++ codes "\n")
why_words (waits_at n) = codes ", waits at rule " ++ (decimal n ++ codes "\n")

-- the line that says what a run returned
abbrev pub return_line : Code → Why → List ℕ
return_line code why = codes "  returns " ++ (name_of code ++ why_words why)

-- the last line of a text says that this code was returned
pub record EndsWith (code : Code) (text : List ℕ) : Type 0 where
  pub before : List ℕ
  pub why : Why
  pub says : text ≡ before ++ return_line code why

abbrev pub RunsEndWithTheirCode : Type 0
RunsEndWithTheirCode =
    (number : ℕ) (func : Func) (type : RuleType) (kind : PassKind) (origins : List Origin)
    (kept : KeptAnswers) (stack : Stack) (past : List Code) (told : Telling) →
    EndsWith (code_of (pass_after kind kept replaying stack past told))
    (pass_text number func type kind origins (pass_rows kind kept stack past told))

abbrev pub CallsEndWithTheirCode : Type 0
CallsEndWithTheirCode =
    (stacks : Stacks) (sources : Sources) (number : ℕ) (func : Func) (h : Held) (told : Telling) →
    EndsWith (goes as_told stacks func h told).code (call_text stacks sources number func h told)

-- of a call in a report, if the report fits the stacks up to its result
abbrev pub FittingCallsEndWithTheirCode : Type 0
FittingCallsEndWithTheirCode =
    (stacks : Stacks) (sources : Sources) (places new_logs : List SlotLog) (number : ℕ)
    (told : List ToldLine) (func : Func) (code : Code) (h : Held) →
    let result = answered (runs func) (shows_code code) in
    place_at places number ≡ Some (running h) →
    after_block stacks places (block_of number told result) ≡ Some new_logs →
    is_refused_change func code (visits_told told) ≡ false →
    EndsWith code
    (block_text stacks sources number (place_at places number) (visits_told told) result)
