use Rattle.std.proofs.Common.{◌≡◌, true, false, sym, ap, ◌∙◌, subst, map}
use Rattle.pam_library.specs.Plain.{plain_slot}
use Rattle.pam_library.specs.Slots.{NoneIsOpen, is_open}
use Rattle.pam_library.proofs.SlotContentFacts.{last_closed, others_closed}
use Rattle.pam_library.proofs.library.Library.dismiss.Goals as goal

pub loop-slot-preserved : goal.loop-slot-preserved
loop-slot-preserved g c =
    others_closed (plain_slot (λ b. (goal.Conv-dyn g (b.vtable, b.value)).conv_holds b.value)) _ c.in-Some.slot
    (subst (λ t. NoneIsOpen (map (plain_slot (λ b. (goal.Conv-dyn g (b.vtable, b.value)).conv_holds b.value)) t)) c.in-Some.ensures.items c.loop-slot.invariant)

pub unreachable-requires : goal.unreachable-requires
unreachable-requires g c =
    let closed_last = last_closed (plain_slot (λ b. (goal.Conv-dyn g (b.vtable, b.value)).conv_holds b.value)) _ c.in-Some.slot (subst (λ t. NoneIsOpen (map (plain_slot (λ b. (goal.Conv-dyn g (b.vtable, b.value)).conv_holds b.value)) t)) c.in-Some.ensures.items c.loop-slot.invariant) in
    let is_true : true ≡ false = sym (ap (λ s. is_open (plain_slot (λ b. (goal.Conv-dyn g (b.vtable, b.value)).conv_holds b.value) s)) c.in-Open.is) ∙ closed_last in
    absurd (cc)
