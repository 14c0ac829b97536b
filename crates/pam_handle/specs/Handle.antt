-- An open transaction as a plain record (pam_start(3)).
use Rattle.std.specs.Prelude.{ℕ, Bool, List, Option}
use Rattle.dispatch_core.specs.service_load.specs.Stacks.{Stacks}
use Rattle.dispatch_core.specs.Pending.{Pending}
use Rattle.dispatch_core.specs.handler_chain.specs.Route.{KeptAnswers}
use Rattle.dispatch_core.specs.pam_room.specs.State.{PlainRoom}
use Rattle.pam_handle.specs.declared.wait.Wait.{Wait}

-- The room, the stacks, the names of the modules that it was started with, the codes that the last authentication and
-- the last opened session cached, whether the application's delay function is on, the pending call, if any, and the
-- last wait that isn't reported yet.
pub record PlainHandle : Type 0 where
  pub room : PlainRoom
  pub stacks : Stacks
  pub names : List (List ℕ)
  pub authenticated : Option KeptAnswers
  pub opened : Option KeptAnswers
  pub delay_on : Bool
  pub pending : Option Pending
  pub waited : Option Wait

-- the transaction with another room
abbrev pub in_room : PlainRoom → PlainHandle → PlainHandle
in_room room h = record h { room = room }
