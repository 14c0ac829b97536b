use Rattle.std.proofs.Common.{length, map}
use Rattle.pam_library.specs.Plain.{plain_slot}
use Rattle.pam_library.specs.Slots.{NoneIsOpen}
use Rattle.pam_library.proofs.library.Library.dismiss.Given as goal

abbrev pub invariant-loop-slot : goal.invariant-loop-slot
invariant-loop-slot g l = NoneIsOpen (map (plain_slot (λ b. (goal.Conv-dyn g (b.vtable, b.value)).conv_holds b.value)) l.slots.items)

abbrev pub decreases-loop-slot : goal.decreases-loop-slot
decreases-loop-slot g l = length l.slots.items
