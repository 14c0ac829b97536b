-- What a run does to module data, with real objects too (this project's own).
use Rattle.std.specs.Prelude.{◌≡◌, ℕ, List, [], ◌∷◌, ◌++◌}
use Rattle.data_cleanup.specs.Ledger.{PlainLedger}
use Rattle.data_cleanup.specs.Cleanup.{Notes}
use Rattle.data_cleanup.specs.Due.{Event}
use Rattle.data_cleanup.specs.Modelled.{Lists, ModelsEvents}
use Rattle.report_step.specs.pam_room.specs.Module.{Player, notes_of}
use Rattle.report_step.specs.pam_library.specs.Calls.{MoveOn, Moved, events_of, last_ledger, last_lists}
use Rattle.report_step.specs.pam_library.specs.Slots.{PlainSlot, handle_limit, lists_of}
use Rattle.cmd_run.specs.Ends.{EndsAre}

-- Calls of a library were made, one after another: each added the data that it set and, if it was
-- an end, that end.
pub record Proceeds (note : Notes) (before : PlainLedger) (lists : Lists) (after : PlainLedger)
    (next : Lists) : Type 0 where
  pub calls : List Moved
  pub moves : MoveOn note handle_limit before lists calls
  pub ledger : last_ledger before calls ≡ after
  pub lists_are : last_lists lists calls ≡ next

-- If cleanup log and module data model some events before calls, they model these and those of the calls after them.
abbrev pub CallsAddEvents : Type 0
CallsAddEvents = (note : Notes) (before after : PlainLedger) (lists next : Lists) (events : List Event)
    → (p : Proceeds note before lists after next) → ModelsEvents note handle_limit before lists events
    → ModelsEvents note handle_limit after next (events ++ events_of before p.calls)

-- all ends of these calls are among these
abbrev pub AllEndsAre : (ℕ → ℕ → Type 0) → List Moved → Type 0
AllEndsAre Is [] = Unit {0}
AllEndsAre Is (m ∷ calls) = EndsAre Is m.ended × AllEndsAre Is calls

pub record ProceedsBy (Is : ℕ → ℕ → Type 0) (note : Notes) (before : PlainLedger) (lists : Lists)
    (after : PlainLedger) (next : Lists) : Type 0 where
  pub went : Proceeds note before lists after next
  pub ends_are : AllEndsAre Is went.calls

-- the same for a library with these modules, from its slots and the cleanup log to those afterwards
abbrev pub ProceedsFor : (ℕ → ℕ → Type 0) → List Player → PlainLedger → List PlainSlot → PlainLedger
    → List PlainSlot → Type 0
ProceedsFor Is players before slots after next =
    ProceedsBy Is (notes_of players) before (lists_of slots) after (lists_of next)
