-- The result of a replayed stack call, in the types of the calls (this project's own).
use Rattle.std.specs.Prelude.{List, Option}
use Rattle.pam_base.specs.declared.call.Func.{Func}
use Rattle.control_words.specs.Stack.{stack_of}
use Rattle.dispatch_core.specs.service_load.specs.Stacks.{Stacks}
use Rattle.dispatch_core.specs.service_load.specs.Trees.{Trees}
use Rattle.handler_chain.specs.declared.seen.RecordedLine.{RecordedLine}
use Rattle.handler_chain.specs.Retell.{Telling}
use Rattle.handler_chain.specs.Route.{KeptAnswers}
use Rattle.dispatch_core.specs.Calls.{Held, Went, authenticated_with, held, opened_with, went}
use Rattle.dispatch_core.specs.Pending.{Pending}
use Rattle.pass_replay.specs.declared.retold.Retold.{Retold}
use Rattle.pass_replay.specs.Held.{held_of}
use Rattle.pass_replay.specs.Told.{telling_from}

-- the four stacks of a load
abbrev pub stacks_in : Trees → Stacks
stacks_in trees = record {
  auth = stack_of trees.auth.vec.items;
  account = stack_of trees.account.vec.items;
  password = stack_of trees.password.vec.items;
  session = stack_of trees.session.vec.items;
}

abbrev pub went_of : List (Option RecordedLine) → Retold → Went Telling
went_of told r = went r.code (held_of r.held) (telling_from told r.next r.astray)

-- what is held after a call, by what it caches and what is pending after it
abbrev pub held_after : Func → Option KeptAnswers → Option Pending → Held → Held
held_after func kept pending h =
    held (authenticated_with func kept h.authenticated) (opened_with func kept h.opened) pending
