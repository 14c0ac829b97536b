use Rattle.std.proofs.Common.{◌≡◌, ◌+◌, drop, map}
use Rattle.pam_library.specs.Plain.{plain_slot}
use Rattle.pam_library.specs.Closing.{first_open}
use Rattle.pam_library.proofs.close_one.place_of_first_open.Given as goal

abbrev pub invariant-loop-i : goal.invariant-loop-i
invariant-loop-i g l =
    let plain = plain_slot (λ b. (goal.Conv-dyn g (b.vtable, b.value)).conv_holds b.value) in
    first_open 1 (map plain l.slots) ≡ first_open (l.i + 1) (map plain (drop l.i l.slots))
