-- The text of a stack call as it is replayed (this project's own): that of each of its runs.
use Rattle.std.specs.Prelude.{ℕ, List, [], ◌++◌, codes, Option, Some, None}
use Rattle.std.specs.Fmt.{decimal}
use Rattle.pam_base.specs.declared.code.Code.{Code}
use Rattle.pam_base.specs.declared.code.Code.TheVariants.{Success}
use Rattle.pam_base.specs.declared.call.Func.{Func}
use Rattle.pam_base.specs.declared.call.Func.TheVariants.{ChAuthTok}
use Rattle.service_load.specs.declared.rule_type.RuleType.{RuleType}
use Rattle.service_load.specs.declared.rule_type.RuleType.TheVariants.{Password}
use Rattle.service_load.specs.Stacks.{Stacks}
use Rattle.control_words.specs.Stack.{Stack}
use Rattle.handler_chain.specs.declared.pass_kind.PassKind.{PassKind}
use Rattle.handler_chain.specs.declared.pass_kind.PassKind.TheVariants.{Follow}
use Rattle.handler_chain.specs.Retell.{Telling}
use Rattle.handler_chain.specs.Route.{KeptAnswers}
use Rattle.pass_replay.specs.dispatch_core.specs.Calls.{Held, answers_held, first_kept, first_pass, first_stack, kind_of, stack_type}
use Rattle.pass_replay.specs.dispatch_core.specs.Pending.{first_in, past_in}
use Rattle.pass_replay.specs.Replay.{as_told}
use Rattle.explain_lines.specs.Origins.{Sources, origins_in}
use Rattle.explain_calls.specs.Rows.{pass_rows}
use Rattle.explain_lines.specs.Text.{pass_text}

-- a change of token whose flags were refused
abbrev pub refused_text : ℕ → List ℕ
refused_text number = decimal number ++ codes " chauthtok: flags refused, no rule was run\n"

module _ (stacks : Stacks) (sources : Sources) (number : ℕ) where
  -- a run of a stack
  abbrev pub run_text : Func → RuleType → Stack → PassKind → Option KeptAnswers → List Code
      → Telling → List ℕ
  run_text func type stack kind kept past told =
      pass_text number func type kind (origins_in sources type)
      (pass_rows kind (answers_held kept) stack past told)

  -- the first run of a call, as `first_pass` has it
  abbrev pub first_text : Func → List Code → Held → Telling → List ℕ
  first_text func past h told =
      run_text func (stack_type func) (first_stack func stacks) (kind_of func (first_kept func h))
      (first_kept func h) past told

  -- the second pass of chauthtok
  abbrev pub second_text : Option KeptAnswers → List Code → Telling → List ℕ
  second_text first past told = run_text ChAuthTok Password stacks.password Follow first past told

  -- the second pass follows if the first one returned SUCCESS
  abbrev pub past_text : Code → Option KeptAnswers → Telling → List ℕ
  past_text Success kept told = second_text kept [] told
  past_text code kept told = []

  abbrev pub check_text : List Code → Held → Telling → List ℕ
  check_text past h told =
      let p = first_pass as_told stacks ChAuthTok past h told in
      first_text ChAuthTok past h told ++ past_text p.code p.kept p.state

  abbrev pub change_text : List Code → Option KeptAnswers → Held → Telling → List ℕ
  change_text past None h told = check_text past h told
  change_text past (Some first) h told = second_text (Some first) past told

  abbrev pub call_after_text : Func → List Code → Option KeptAnswers → Held → Telling → List ℕ
  call_after_text ChAuthTok past first h told = change_text past first h told
  call_after_text func past first h told = first_text func past h told

  -- a call while no other one is pending, as `goes` has it
  abbrev pub call_text : Func → Held → Telling → List ℕ
  call_text func h told = call_after_text func (past_in h.pending) (first_in h.pending) h told
