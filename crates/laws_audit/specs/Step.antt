-- A step of a library fits what is known of its slots (this project's own).
use Rattle.std.specs.Prelude.{◌≡◌, ℕ, List, map, Some}
use Rattle.std.specs.List.{AllByRecursion}
use Rattle.pam_base.specs.declared.code.Code.{Code}
use Rattle.pam_base.specs.declared.call.Step.{Step}
use Rattle.pam_room.specs.Module.{Player}
use Rattle.pam_room.specs.State.{PlainWorld}
use Rattle.dispatch_core.specs.Lines.{names_of}
use Rattle.service_load.specs.Stacks.{Stacks}
use Rattle.pam_library.specs.Slots.{PlainSlot, closed, opened}
use Rattle.pam_library.specs.Step.{stepped}
use Rattle.session_audit.specs.Fits.{SlotLog, shut, running, fold}
use Rattle.session_audit.specs.Sound.{AreSound}
use Rattle.pam_handle.specs.StackCalls.{held_in}
use Rattle.laws_audit.specs.Report.{reported}

abbrev pub place_of : PlainSlot → SlotLog
place_of (closed conv) = shut
place_of (opened h) = running (held_in h)

abbrev pub places_of : List PlainSlot → List SlotLog
places_of slots = map place_of slots

-- an open transaction has these stacks
abbrev pub HasStacks : Stacks → PlainSlot → Type 0
HasStacks stacks (closed conv) = Unit {0}
HasStacks stacks (opened h) = h.stacks ≡ stacks

abbrev pub HaveStacks : Stacks → List PlainSlot → Type 0
HaveStacks stacks slots = AllByRecursion (HasStacks stacks) slots

-- A step on slots with these stacks: its report fits, and leads to the slots after it.
abbrev pub StepsFit : Type 0
StepsFit = (players : List Player) (number_of : Code → ℕ → ℕ) (stacks : Stacks) (slots : List PlainSlot) (w : PlainWorld) (step : Step) →
    HaveStacks stacks slots → AreSound stacks (places_of slots) →
    let s = stepped players number_of slots w step in
    fold stacks (places_of slots) (reported (names_of players) step s.outcome s.world.process.ledger) ≡ Some (places_of s.slots)
