use Rattle.std.proofs.Common.{◌-◌, refl, ap, arith}
use Rattle.pam_library.specs.AnyWorld.{conv_of, with_conv}
use Rattle.pam_library.specs.declared.slot.Slot.TheVariants.{Closed, Open}
use Rattle.pam_library.proofs.SlotContentFacts.{put_slots, put_old, put_tells}
use Rattle.pam_library.specs.Slots.{opened}
use Rattle.pam_library.proofs.library.Library.put_conv.Goals as goal

pub returns-in-Closed-clause-slots : goal.returns-in-Closed-clause-slots
returns-in-Closed-clause-slots g c slot = put_slots _ c.args.self.now.slots.items c.args.number c.index_mut.result.now (Closed c.replace.new.dest) (with_conv _) slot (omega (arith, c.requires)) (omega (arith, c.requires, c.args.self.now.sixteen)) c.index_mut.ensures.value (rw (c.replace.ensures.after, c.in-Closed.is) refl)

pub returns-in-Closed-clause-old : goal.returns-in-Closed-clause-old
returns-in-Closed-clause-old g c slot = put_old _ conv_of c.args.self.now.slots.items c.args.number c.index_mut.result.now slot _ (omega (arith, c.requires)) (omega (arith, c.requires, c.args.self.now.sixteen)) c.index_mut.ensures.value (rw (c.replace.ensures.value, c.in-Closed.is) refl)

pub returns-in-Closed-clause-tells : goal.returns-in-Closed-clause-tells
returns-in-Closed-clause-tells g c = put_tells _ c.args.self.now.slots.items (c.args.number - 1) c.index_mut.result.now (Closed c.replace.new.dest) _ _ (omega (arith, c.requires, c.args.self.now.sixteen)) c.index_mut.ensures.value (rw c.replace.ensures.after refl) (rw (c.replace.ensures.value, c.in-Closed.is) refl)

pub returns-in-Open-clause-slots : goal.returns-in-Open-clause-slots
returns-in-Open-clause-slots g c slot = put_slots _ c.args.self.now.slots.items c.args.number c.index_mut.result.now (Open c.set_conv.new.self) (with_conv _) slot (omega (arith, c.requires)) (omega (arith, c.requires, c.args.self.now.sixteen)) c.index_mut.ensures.value (rw c.in-Open.is (ap opened c.set_conv.ensures.plain))

pub returns-in-Open-clause-old : goal.returns-in-Open-clause-old
returns-in-Open-clause-old g c slot = put_old _ conv_of c.args.self.now.slots.items c.args.number c.index_mut.result.now slot _ (omega (arith, c.requires)) (omega (arith, c.requires, c.args.self.now.sixteen)) c.index_mut.ensures.value (rw (c.set_conv.ensures.old, c.in-Open.is) refl)

pub returns-in-Open-clause-tells : goal.returns-in-Open-clause-tells
returns-in-Open-clause-tells g c = put_tells _ c.args.self.now.slots.items (c.args.number - 1) c.index_mut.result.now (Open c.set_conv.new.self) _ _ (omega (arith, c.requires, c.args.self.now.sixteen)) c.index_mut.ensures.value (rw c.set_conv.ensures.conv refl) (rw (c.set_conv.ensures.old, c.in-Open.is) refl)
