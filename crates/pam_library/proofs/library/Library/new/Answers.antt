use Rattle.std.proofs.Common.{refl, sym, ap, ◌∙◌, map, rules}
use Rattle.std.specs.Vec.Iter.{into_iter_items}
use Rattle.pam_library.specs.declared.slot.Slot.TheVariants.{Closed}
use Rattle.pam_library.proofs.SlotContentFacts.{empty_of, made_all, made_test}
use Rattle.pam_library.proofs.library.Library.new.Goals as goal

pub returns-clause-slots : goal.returns-clause-slots
returns-clause-slots g c = made_all Closed _ _ (λ b. refl) c.args.convs.items (into_iter_items c.loop-conv.conv-iterator) c.loop-conv.slots.items
    (empty_of _ (sym c.loop-conv.invariant.counted ∙ c.in-None.ensures.steps.0)) (c.loop-conv.invariant.items ∙ ap (map Closed) (search rules))

pub returns-clause-tells : goal.returns-clause-tells
returns-clause-tells g c = made_test Closed _ _ (λ b. refl) c.args.convs.items (into_iter_items c.loop-conv.conv-iterator) c.loop-conv.slots.items
    (empty_of _ (sym c.loop-conv.invariant.counted ∙ c.in-None.ensures.steps.0)) (c.loop-conv.invariant.items ∙ ap (map Closed) (search rules))
