use Rattle.std.proofs.Common.{◌≡◌, ◌+◌, ◌<◌, true, length, map, IsTrue, None, subst, arith, rules, Option}
use Rattle.std.specs.List.{list_all}
use Rattle.pam_library.specs.Slots.{PlainSlot, slot_at}
use Rattle.pam_library.specs.Plain.{plain_slot, slot_tells}
use Rattle.pam_library.specs.AnyWorld.{leaves_world}
use Rattle.pam_library.proofs.StackCallFacts.{only_of}
use Rattle.pam_library.proofs.Within.{both_of, first_of, second_of}
use Rattle.pam_library.proofs.SlotContentFacts.{held_in}
use Rattle.pam_library.proofs.SlotStepFacts.{IsPut, IsReplaced, all_step, answer_after, bad_number, fails_after, inside_after, moves_after, none_beyond, none_first, others_stay, put, ready_at, replaced, slots_length, sound_after, spends_after, stops_after, succeeds_after, tell_as, tells_at, traces_after}
use Rattle.pam_library.proofs.CallRecordFacts.{answers_with, bad_answers, keeps_still, leaves_all, none_ends, runs_out}
use Rattle.pam_library.proofs.library.Library.apply.Given as given
use Rattle.pam_library.proofs.library.Library.apply.Goals as goal
use Rattle.pam_library.proofs.library.Library.apply.Goals.{then-number-eq0-via-then-number-eq0, then-number-eq0-via-else-number-eq0+then-len-number}

-- ---- a number without a slot

none_there : (g : given.Over) (c : goal.After-only g)
    → slot_at (map (plain_slot (λ b. (goal.Conv-dyn g (b.vtable, b.value)).conv_holds b.value)) c.args.self.now.slots.items) c.args.step.now.number ≡ None
none_there g c = elim c.then-number-eq0.branch [
  | then-number-eq0-via-then-number-eq0 w ↦ none_first _ _ w.if-number-eq0.true
  | then-number-eq0-via-else-number-eq0+then-len-number w ↦
      let beyond : length c.args.self.now.slots.items < c.args.step.now.number = omega (arith, w.if-len-number.true, w.len.ensures) in
      none_beyond _ _ (slots_length _ c.args.self.now.slots.items c.args.step.now.number beyond)
]

pub returns-then-number-eq0-clause-keeps : goal.returns-then-number-eq0-clause-keeps
returns-then-number-eq0-clause-keeps g c = keeps_still _ _ (none_ends _ c.args.step.now (none_there g c)) c.nothing_moves.ensures c.requires.sound

pub returns-then-number-eq0-clause-leaves : goal.returns-then-number-eq0-clause-leaves
returns-then-number-eq0-clause-leaves g c = leaves_all _ c.args.step.now _ _ (none_there g c)

pub returns-then-number-eq0-clause-answers : goal.returns-then-number-eq0-clause-answers
returns-then-number-eq0-clause-answers g c = bad_answers c.args.step.now _ c.only.result (none_there g c)
    (only_of c.only.result _ _ _ c.only.ensures.plain c.receipts_in-filed_from.ensures)

pub returns-then-number-eq0-clause-inside : goal.returns-then-number-eq0-clause-inside
returns-then-number-eq0-clause-inside g c = λ delay inside. bad_number _ delay _ _ c.args.step.now c.only.result (none_there g c)
    (only_of c.only.result _ _ _ c.only.ensures.plain c.receipts_in-filed_from.ensures)

pub returns-then-number-eq0-clause-told : goal.returns-then-number-eq0-clause-told
returns-then-number-eq0-clause-told g c = λ delay given all. bad_number _ delay _ _ c.args.step.now c.only.result (none_there g c)
    (only_of c.only.result _ _ _ c.only.ensures.plain c.receipts_in-filed_from.ensures)

-- ---- a step in its slot

pub step-slot-requires-clause-may : goal.step-slot-requires-clause-may
step-slot-requires-clause-may g c =
    let there = held_in (plain_slot (λ b. (goal.Conv-dyn g (b.vtable, b.value)).conv_holds b.value)) c.args.self.now.slots.items c.args.step.now.number c.swap_remove-slot.result
    (omega (arith, c.if-number-eq0.false)) (omega (arith, c.if-number-eq0.false, c.if-len-number.false, c.len.ensures)) c.swap_remove-slot.ensures.value in
    record {
      placed = c.requires.sound.placed.each c.args.step.now.number _ there;
      ready = ready_at _ _ _ _ c.args.step.now.number _ c.held_data_await_cleanup.ensures c.requires.sound there;
    }

-- the slot was taken out, and its new content is put back in its place
stepped_in : (g : given.Over) (c : goal.After-ledger_is_sound g)
    → IsReplaced c.args.self.now.slots.items c.put_back.new.slots.items c.args.step.now.number c.swap_remove-slot.result c.step-slot.result.slot
stepped_in g c =
    let shorter : length c.swap_remove-slot.new.self.items + 1 ≡ length c.args.self.now.slots.items = search rules in
    replaced c.args.self.now.slots.items c.swap_remove-slot.new.self.items c.put_back.new.slots.items c.args.step.now.number c.swap_remove-slot.result c.step-slot.result.slot
    (omega (arith, c.if-number-eq0.false)) (omega (arith, c.if-len-number.false, c.len.ensures)) c.swap_remove-slot.ensures.value shorter c.put_back.ensures.len
    (search rules) (search rules) c.put_back.ensures.swapped

put_in : (g : given.Over) (c : goal.After-ledger_is_sound g)
    → IsPut (map (plain_slot (λ b. (goal.Conv-dyn g (b.vtable, b.value)).conv_holds b.value)) c.args.self.now.slots.items) (map (plain_slot (λ b. (goal.Conv-dyn g (b.vtable, b.value)).conv_holds b.value)) c.put_back.new.slots.items) c.args.step.now.number
    ((plain_slot (λ b. (goal.Conv-dyn g (b.vtable, b.value)).conv_holds b.value)) c.swap_remove-slot.result) ((plain_slot (λ b. (goal.Conv-dyn g (b.vtable, b.value)).conv_holds b.value)) c.step-slot.result.slot)
put_in g c = put (plain_slot (λ b. (goal.Conv-dyn g (b.vtable, b.value)).conv_holds b.value)) _ _ _ _ _ (omega (arith, c.if-number-eq0.false)) (stepped_in g c)

-- its conversation is modelled if all are
tells_there : (g : given.Over) (c : goal.After-ledger_is_sound g) → IsTrue (list_all (slot_tells (λ b. (goal.Conv-dyn g (b.vtable, b.value)).conv_tells b.value)) c.args.self.now.slots.items) → IsTrue ((slot_tells (λ b. (goal.Conv-dyn g (b.vtable, b.value)).conv_tells b.value)) c.swap_remove-slot.result)
tells_there g c all = tells_at (slot_tells (λ b. (goal.Conv-dyn g (b.vtable, b.value)).conv_tells b.value)) _ _ _ _ _ (stepped_in g c) all

pub returns-clause-keeps : goal.returns-clause-keeps
returns-clause-keeps g c = record {
  tells = tell_as (slot_tells (λ b. (goal.Conv-dyn g (b.vtable, b.value)).conv_tells b.value)) _ _ _ _ _ (stepped_in g c) c.step-slot.ensures.called.calls.still_tells;
  world_tells = c.step-slot.ensures.called.calls.world_tells;
  sound = sound_after _ _ _ _ _ _ _ _ _ _ _ _ _ _ (put_in g c) c.step-slot.ensures.called.calls.goes
      c.one_place_moves.ensures.sound c.requires.sound c.ledger_is_sound.ensures.numbered;
  moves = moves_after _ _ _ _ _ _ _ _ _ _ _ _ _ _ (put_in g c) c.step-slot.ensures.called.calls.goes
      c.one_place_moves.ensures.moves c.requires.sound c.ledger_is_sound.ensures.numbered;
}

pub returns-clause-leaves : goal.returns-clause-leaves
returns-clause-leaves g c = record {
  others = others_stay _ _ _ _ _ _ _ _ _ _ _ _ _ _ (put_in g c) c.step-slot.ensures.called.calls.goes;
  spends = spends_after _ _ _ _ _ _ _ _ _ _ _ _ _ _ (put_in g c) c.step-slot.ensures.called.calls.goes;
  root = c.step-slot.ensures.called.calls.goes.root;
  caller = c.step-slot.ensures.called.calls.goes.caller;
}

pub returns-clause-world : goal.returns-clause-world
returns-clause-world g c = λ leaves. c.step-slot.ensures.called.calls.world (subst (λ (o : Option PlainSlot). leaves_world o c.args.step.now.call ≡ true) (put_in g c).there leaves)

pub returns-clause-answers : goal.returns-clause-answers
returns-clause-answers g c = answers_with c.args.step.now _ _ c.step-slot.result.outcome
    (answer_after _ _ _ _ _ _ _ _ _ _ _ _ _ _ (put_in g c) c.step-slot.ensures.called.calls.goes)
    (traces_after _ _ _ _ _ _ _ _ _ _ _ _ _ _ (put_in g c) c.step-slot.ensures.called.calls.goes) c.step-slot.ensures.called.calls.goes.filed_from c.step-slot.ensures.called.counts

pub returns-clause-inside : goal.returns-clause-inside
returns-clause-inside g c = λ delay inside.
    all_step _ delay _ _ c.args.step.now _ _ _ _ _ (put_in g c)
    (c.step-slot.ensures.called.calls.goes.alone delay (inside_after _ _ _ _ _ _ _ _ _ _ _ _ _ _ (put_in g c) c.step-slot.ensures.called.calls.goes inside))

pub returns-clause-told : goal.returns-clause-told
returns-clause-told g c = λ delay given all.
    all_step _ delay _ _ c.args.step.now _ _ _ _ _ (put_in g c)
    (c.step-slot.ensures.called.calls.goes.told delay given (both_of _ _ (tells_there g c (first_of _ _ all)) (second_of _ _ all)))

pub returns-clause-succeeds : goal.returns-clause-succeeds
returns-clause-succeeds g c = succeeds_after _ _ _ _ _ _ _ _ _ _ _ _ _ _ (put_in g c) c.step-slot.ensures.called.calls.goes

pub returns-clause-fails : goal.returns-clause-fails
returns-clause-fails g c = runs_out c.args.step.now _ _ c.step-slot.result.outcome _ _
    (fails_after _ _ _ _ _ _ _ _ _ _ _ _ _ _ (put_in g c) c.step-slot.ensures.called.calls.goes _ (tells_there g c))
    (stops_after _ _ _ _ _ _ _ _ _ _ _ _ _ _ (put_in g c) c.step-slot.ensures.called.calls.goes
    _ (λ all. both_of _ _ (tells_there g c (first_of _ _ all)) (second_of _ _ all)))
    c.step-slot.ensures.no_nap c.step-slot.ensures.called.hides_none
