-- Calls of a library one after another, on sixteen transactions (this project's own). Between two
-- of them the world may change: time passes, and others write files.
use Rattle.std.specs.Prelude.{◌≡◌, ℕ, List, [], ◌∷◌, ◌++◌, Option}
use Rattle.std.specs.List.{AllByRecursion}
use Rattle.pam_base.specs.declared.code.Code.{Code}
use Rattle.pam_base.specs.declared.call.AppCall.{AppCall}
use Rattle.pam_base.specs.declared.call.AppCall.TheVariants as calls
use Rattle.pam_outside.specs.Files.{file_at}
use Rattle.service_load.specs.Stacks.{Stacks}
use Rattle.pam_room.specs.Module.{Player}
use Rattle.pam_room.specs.State.{PlainWorld}
use Rattle.pam_handle.specs.Start.{stacks_under}
use Rattle.pam_library.specs.Plays.{AskedLine, StepAsks}
use Rattle.pam_library.specs.SideBySide.{Met}
use Rattle.pam_library.specs.Slots.{PlainSlot, closed, opened}
use Rattle.pam_library.specs.Step.{stepped}

-- ---- the configuration

-- this holds for the stacks of an open transaction
abbrev pub HasSuch : (Stacks → Type 0) → PlainSlot → Type 0
HasSuch Such (closed conv) = Unit {0}
HasSuch Such (opened h) = Such h.stacks

-- a start finds such stacks in the files of its service
abbrev pub FindsSuch : (Stacks → Type 0) → PlainWorld → AppCall → Type 0
FindsSuch Such w (calls.Start service user) = Such (stacks_under w.vault w.process.root service)
FindsSuch Such w call = Unit {0}

-- each transaction that is open has such stacks, and each start finds such stacks
pub record AreConfigured (Such : Stacks → Type 0) (slots : List PlainSlot)
    (steps : List Met) : Type 0 where
  pub at_first : AllByRecursion (HasSuch Such) slots
  pub starts : AllByRecursion (λ (m : Met). FindsSuch Such m.world m.step.call) steps

-- ---- what the calls do

module _ (players : List Player) (number_of : Code → ℕ → ℕ) where
  -- Only these calls change the file with this path: each finds it as the one before left it.
  abbrev pub OnlyTheseWrite : List ℕ → List PlainSlot → Option (List ℕ) → List Met
      → Option (List ℕ) → Type 0
  OnlyTheseWrite path slots before [] after = after ≡ before
  OnlyTheseWrite path slots before (m ∷ steps) after =
      let s = stepped players number_of slots m.world m.step in
      (file_at path m.world.vault.files ≡ before)
      × OnlyTheseWrite path s.slots (file_at path s.world.vault.files) steps after

  -- what the modules of the lines get that these calls run
  abbrev pub StepsAsk : List PlainSlot → List Met → List AskedLine → Type 0
  StepsAsk slots [] asked = asked ≡ []
  StepsAsk slots (m ∷ steps) asked =
      (first : List AskedLine) × (others : List AskedLine) × (asked ≡ first ++ others)
      × StepAsks players number_of slots m.world m.step first
      × StepsAsk (stepped players number_of slots m.world m.step).slots steps others
