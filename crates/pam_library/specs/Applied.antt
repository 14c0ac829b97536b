-- What a call leaves, with real objects too, by what the library and its world show before and after it (this project's
-- own).
use Rattle.std.specs.Prelude.{◌≡◌, ◌&&◌, ℕ, List, Option, length}
use Rattle.pam_base.specs.declared.code.Code.{Code}
use Rattle.pam_base.specs.declared.call.Step.{Step}
use Rattle.data_cleanup.specs.Due.{Event}
use Rattle.data_cleanup.specs.Moves.{Moves}
use Rattle.pam_handle.specs.pam_room.specs.Module.{Player, notes_of}
use Rattle.pam_handle.specs.pam_room.specs.State.{PlainWorld}
use Rattle.pam_library.specs.declared.outcome.Outcome.{Outcome}
use Rattle.pam_library.specs.Outcome.{plain_outcome}
use Rattle.pam_library.specs.Slots.{PlainSlot, handle_limit, lists_of, slot_at}
use Rattle.pam_library.specs.Step.{StepsAs, stepped}
use Rattle.pam_library.specs.Closing.{ClosesAs, closed_one}
use Rattle.pam_library.specs.AnyWorld.{AnswersBy, CountsRefusal, FailsAt, HidesNoFault, SpendsAt, StopsAt, end_at, refusal}
use Rattle.pam_library.specs.Seen.{IsSoundIn, SessionSeen, slot_of}
use Rattle.pam_library.specs.Traced.{TracesAt}

-- What every call keeps, whatever it returns: what was modelled before is modelled after, the module data without a
-- cleanup record are those of the open transactions, and the cleanup log has its sets and this end.
pub record Keeps (ended : List Event) (old new : SessionSeen) : Type 0 where
  pub tells : new.tells ≡ old.tells
  pub world_tells : new.world_tells ≡ old.world_tells
  pub sound : IsSoundIn new
  pub moves : Moves (notes_of old.players) handle_limit ended old.world.process.ledger
      (lists_of old.slots) new.world.process.ledger (lists_of new.slots)

-- the end that the step makes, if it makes one
abbrev pub ended_by : Step → SessionSeen → List Event
ended_by step old = end_at (slot_of step old) step.number step.call

-- What a step leaves as it was, whatever it returns, and what it does to the module data of its transaction.
pub record Leaves (players : List Player) (step : Step) (slots next : List PlainSlot)
    (w v : PlainWorld) : Type 0 where
  pub others : (number : ℕ) → (number ≡ step.number → ⊥)
      → slot_at next number ≡ slot_at slots number
  pub spends : SpendsAt (notes_of players) (length players) (slot_at slots step.number) step.call
      (lists_of slots step.number) w.process.ledger (lists_of next step.number) v.process.ledger
  pub root : v.process.root ≡ w.process.root
  pub caller : v.process.caller ≡ w.process.caller

abbrev pub LeavesIn : Step → SessionSeen → SessionSeen → Type 0
LeavesIn step old new = Leaves old.players step old.slots new.slots old.world new.world

-- What the outcome of a step says: the answer by number, slot and pending call, else one of those that the call has;
-- to which code the lines of a stack call lead; the number of cleanup records before it; and whether a refused start
-- counted a failed file access.
pub record Answers (step : Step) (old new : SessionSeen) (outcome : Outcome) : Type 0 where
  pub answer : AnswersBy (refusal (slot_of step old) step.call) step.call outcome.answer
  pub traces : TracesAt step.call (slot_of step old) (slot_of step new) (plain_outcome outcome)
  pub filed_from : outcome.filed_from ≡ length old.world.process.ledger.filed
  pub faults : CountsRefusal outcome.answer old.faults new.faults

-- an outcome, and what is shown after a step, are exactly those of the step
abbrev pub StepsIn : (Code → ℕ → ℕ) → Step → SessionSeen → SessionSeen → Outcome → Type 0
StepsIn number_of step old new outcome =
    StepsAs (stepped old.players number_of old.slots old.world step) (plain_outcome outcome)
    new.slots new.world

-- What a step leaves that runs out of memory: its transaction, and the line of a stack call at which it did; nothing
-- was waited, and a start had no failed file access.
pub record RunsOut {Nap : Type 0} (step : Step) (old new : SessionSeen) (nap_before nap_after : Nap)
    : Type 0 where
  pub fails : FailsAt old.tells step.call (slot_of step old) (slot_of step new)
  pub stops : StopsAt old.players (old.tells && old.world_tells) step.call (slot_of step old)
      (slot_of step new) old.world new.world
  pub no_nap : nap_after ≡ nap_before
  pub hides_none : HidesNoFault step.call old.faults new.faults

-- ending the lowest open transaction returned this and left this
abbrev pub ClosesIn : ℕ → Option ℕ → SessionSeen → SessionSeen → Type 0
ClosesIn status result old new =
    ClosesAs (closed_one (notes_of old.players) status old.slots old.world) result old.slots
    old.world new.slots new.world
