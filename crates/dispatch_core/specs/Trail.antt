-- A pass by the lines of its trace, whatever the objects (this project's own).
use Rattle.std.specs.Prelude.{◌≡◌, List, ◌++◌, map}
use Rattle.pam_base.specs.declared.code.Code.{Code}
use Rattle.control_words.specs.Module.{name_of_module}
use Rattle.control_words.specs.Stack.{Stack}
use Rattle.pam_room.specs.declared.visits.Visit.{Visit as Visited}
use Rattle.handler_chain.specs.declared.pass_kind.PassKind.{PassKind}
use Rattle.handler_chain.specs.Pass.{PassState, pass_after}
use Rattle.handler_chain.specs.Retell.{RecordedLine, Telling, replaying, seen_at, telling}
use Rattle.handler_chain.specs.Route.{KeptAnswers}
use Rattle.handler_chain.specs.Walk.{Walked}

-- a line run, as a replay has it
abbrev pub seen_of : Visited → RecordedLine
seen_of v = seen_at v.place (name_of_module v.path) v.answer

abbrev pub seen_in : List Visited → List RecordedLine
seen_in visits = map seen_of visits

-- What a pass gives and leaves, by the lines that it added to the trace: the same as the walk over its stack, after the
-- codes of its earlier calls, in which each line returns what the trace has for it. That walk runs these lines and no
-- others, in their order.
pub record ByTrail (kind : PassKind) (kept : KeptAnswers) (stack : Stack) (past : List Code)
    (before after : List Visited) (As : Walked (PassState Telling) → Telling → Type 0) : Type 0 where
  pub more : List Visited
  pub trail : after ≡ before ++ more
  pub goes : (rest : List RecordedLine)
      → As (pass_after kind kept replaying stack past (telling (seen_in more ++ rest)))
      (telling rest)
