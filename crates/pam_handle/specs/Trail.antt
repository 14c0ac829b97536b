-- A stack call by the lines that it added to the trace, whatever the objects (this project's own).
use Rattle.std.specs.Prelude.{◌≡◌, List, ◌++◌}
use Rattle.pam_base.specs.declared.code.Code.{Code}
use Rattle.dispatch_core.specs.handler_chain.specs.Retell.{RecordedLine, Telling, replaying, telling}
use Rattle.dispatch_core.specs.Calls.{Asking, Held, Went, went}
use Rattle.dispatch_core.specs.Trail.{seen_in}
use Rattle.dispatch_core.specs.pam_room.specs.declared.visits.Visit.{Visit}

-- a line returns what the trace has for it
abbrev pub as_traced : Asking Telling
as_traced func second = replaying

-- What a call gives, and what is held after it, by the lines that it added to the trace: the same as its passes, in
-- which each line returns what the trace has for it. These run these lines and no others, in their order.
pub record CallsByTrail (runs : Telling → Went Telling) (before after : List Visit) (code : Code)
    (new_held : Held) : Type 0 where
  pub more : List Visit
  pub trail : after ≡ before ++ more
  pub leads : (rest : List RecordedLine)
      → runs (telling (seen_in more ++ rest)) ≡ went code new_held (telling rest)
