-- One pass of a stack call over one of a transaction's stacks (pam.conf(5), the Module Writers' Guide).
use Rattle.std.specs.Prelude.{◌≡◌, ℕ, Option, Some, None, List, is_some, if◌then◌else◌}
use Rattle.pam_base.specs.declared.code.Code.{Code}
use Rattle.pam_base.specs.declared.call.Func.{Func}
use Rattle.dispatch_core.specs.control_words.specs.Stack.{Stack}
use Rattle.frozen_chain.specs.Kept.{Answers}
use Rattle.dispatch_core.specs.handler_chain.specs.declared.pass_kind.PassKind.{PassKind}
use Rattle.dispatch_core.specs.handler_chain.specs.Route.{KeptAnswers}
use Rattle.dispatch_core.specs.handler_chain.specs.Pass.{pass_after}
use Rattle.dispatch_core.specs.Lines.{answers_by}
use Rattle.dispatch_core.specs.Passes.{by_place}
use Rattle.dispatch_core.specs.Calls.{Passed, answers_held, passed_by}
use Rattle.dispatch_core.specs.pam_room.specs.State.{State}
use Rattle.dispatch_core.specs.pam_room.specs.Module.{Player}

-- the cached codes in an array, by rule number, if there are any
abbrev pub kept_answers : Answers → Option KeptAnswers
kept_answers cells = if is_some cells then Some (by_place cells) else None

-- a pass of a kind over a stack, with cached codes, and with the codes of its earlier calls
abbrev pub passed : List Player → Func → ℕ → PassKind → Option KeptAnswers → Stack → List Code
    → State → Passed State
passed players func flags kind kept stack past s =
    passed_by kind kept (pass_after kind (answers_held kept) (answers_by players func flags) stack
    past s)

-- a code, the cached codes, the codes to resume with, and a state are those of a pass
pub record PassesTo {T : Type 0} (p : Passed T) (code : Code) (kept : Option KeptAnswers)
    (paused : Option (List Code)) (state : T) : Type 0 where
  pub code_is : code ≡ p.code
  pub kept_is : kept ≡ p.kept
  pub paused_is : paused ≡ p.paused
  pub state_is : state ≡ p.state
