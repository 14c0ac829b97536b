use Rattle.std.proofs.Common.{length, ◌≡◌, ◌+◌, true, false, Some, map, sym, ◌∙◌, ap, subst, arith, rules}
use Rattle.pam_handle.specs.pam_room.specs.Module.{notes_of, player_of}
use Rattle.pam_handle.specs.pam_room.specs.Plain.{plain_room}
use Rattle.pam_handle.specs.Plain.{plain_handle}
use Rattle.pam_library.specs.Slots.{closed, opened, is_open}
use Rattle.pam_library.specs.declared.slot.Slot.TheVariants.{Closed}
use Rattle.pam_library.specs.Plain.{plain_slot, slot_tells}
use Rattle.pam_library.specs.Closing.{IsFirstOpen, end_of, first_open}
use Rattle.pam_library.proofs.SlotStepFacts.{IsPut, IsReplaced, put, ready_at, tell_as}
use Rattle.pam_library.proofs.OpenSlotFacts.{closes_none, closes_one, end_moves, end_sound, found_as, found_at, found_none, none_is_open, place_is, place_there, place_within, put_as, put_there, some_is_open}
use Rattle.pam_library.proofs.CallRecordFacts.{keeps_still}
use Rattle.pam_library.proofs.library.Library.close_one.Given as given
use Rattle.pam_library.proofs.library.Library.close_one.Goals as goal

pub returns-in_err-place-clause-keeps : goal.returns-in_err-place-clause-keeps
returns-in_err-place-clause-keeps g c = keeps_still _ _ (ap (end_of c.args.status) c.from_residual.ensures) c.nothing_moves.ensures c.requires

pub returns-in_err-place-clause-closes : goal.returns-in_err-place-clause-closes
returns-in_err-place-clause-closes g c = closes_none _ _ _ _ _ c.from_residual.ensures (found_none _ _ (subst (λ t. IsFirstOpen c.place_of_first_open.result (first_open 1 (map (plain_slot (λ b. (goal.Conv-dyn g (b.vtable, b.value)).conv_holds b.value)) t))) c.deref.ensures.value c.place_of_first_open.ensures) c.in_err-place.was)

pub returns-in_err-place-clause-none : goal.returns-in_err-place-clause-none
returns-in_err-place-clause-none g c = none_is_open _ _ (found_none _ _ (subst (λ t. IsFirstOpen c.place_of_first_open.result (first_open 1 (map (plain_slot (λ b. (goal.Conv-dyn g (b.vtable, b.value)).conv_holds b.value)) t))) c.deref.ensures.value c.place_of_first_open.ensures) c.in_err-place.was) c.from_residual.ensures

pub swap_remove-requires : goal.swap_remove-requires
swap_remove-requires g c =
    let found = found_at _ _ c.in_ok-place.place (subst (λ t. IsFirstOpen c.place_of_first_open.result (first_open 1 (map (plain_slot (λ b. (goal.Conv-dyn g (b.vtable, b.value)).conv_holds b.value)) t))) c.deref.ensures.value c.place_of_first_open.ensures) c.in_ok-place.was in
    omega (arith, place_within (plain_slot (λ b. (goal.Conv-dyn g (b.vtable, b.value)).conv_holds b.value)) c.args.self.now.slots.items c.in_ok-place.place found.0 found.1)

pub put_back-requires-clause-within : goal.put_back-requires-clause-within
put_back-requires-clause-within g c =
    let found = found_at _ _ c.in_ok-place.place (subst (λ t. IsFirstOpen c.place_of_first_open.result (first_open 1 (map (plain_slot (λ b. (goal.Conv-dyn g (b.vtable, b.value)).conv_holds b.value)) t))) c.deref.ensures.value c.place_of_first_open.ensures) c.in_ok-place.was in
    let within = place_within (plain_slot (λ b. (goal.Conv-dyn g (b.vtable, b.value)).conv_holds b.value)) c.args.self.now.slots.items c.in_ok-place.place found.0 found.1 in
    let shorter : length c.swap_remove.new.self.items + 1 ≡ length c.args.self.now.slots.items = search rules in
    search (rules, within, shorter)

pub overflow_add-result : goal.overflow_add-result
overflow_add-result g c =
    let found = found_at _ _ c.in_ok-place.place (subst (λ t. IsFirstOpen c.place_of_first_open.result (first_open 1 (map (plain_slot (λ b. (goal.Conv-dyn g (b.vtable, b.value)).conv_holds b.value)) t))) c.deref.ensures.value c.place_of_first_open.ensures) c.in_ok-place.was in
    let within = place_within (plain_slot (λ b. (goal.Conv-dyn g (b.vtable, b.value)).conv_holds b.value)) c.args.self.now.slots.items c.in_ok-place.place found.0 found.1 in
    search (rules, within)

pub overflow_cast-result : goal.overflow_cast-result
overflow_cast-result g c =
    let found = found_at _ _ c.in_ok-place.place (subst (λ t. IsFirstOpen c.place_of_first_open.result (first_open 1 (map (plain_slot (λ b. (goal.Conv-dyn g (b.vtable, b.value)).conv_holds b.value)) t))) c.deref.ensures.value c.place_of_first_open.ensures) c.in_ok-place.was in
    let within = place_within (plain_slot (λ b. (goal.Conv-dyn g (b.vtable, b.value)).conv_holds b.value)) c.args.self.now.slots.items c.in_ok-place.place found.0 found.1 in
    search (rules, within)

pub end-conv-requires : goal.end-conv-requires
end-conv-requires g c =
    let found = found_at _ _ c.in_ok-place.place (subst (λ t. IsFirstOpen c.place_of_first_open.result (first_open 1 (map (plain_slot (λ b. (goal.Conv-dyn g (b.vtable, b.value)).conv_holds b.value)) t))) c.deref.ensures.value c.place_of_first_open.ensures) c.in_ok-place.was in
    let stands = place_is (plain_slot (λ b. (goal.Conv-dyn g (b.vtable, b.value)).conv_holds b.value)) c.args.self.now.slots.items c.in_ok-place.place found.0 found.1 c.swap_remove.result c.swap_remove.ensures.value in
    let mine = found_as ((plain_slot (λ b. (goal.Conv-dyn g (b.vtable, b.value)).conv_holds b.value)) c.swap_remove.result) _ (c.in_ok-place.place + 1) found.0 (plain_handle (plain_room (λ b. (goal.Conv-dyn g (b.vtable, b.value)).conv_holds b.value)) c.in-Open.handle) stands (ap (plain_slot (λ b. (goal.Conv-dyn g (b.vtable, b.value)).conv_holds b.value)) c.in-Open.is) found.1 in (
      (c.requires.placed.each (c.in_ok-place.place + 1) (opened (plain_handle (plain_room (λ b. (goal.Conv-dyn g (b.vtable, b.value)).conv_holds b.value)) c.in-Open.handle)) (place_there (plain_slot (λ b. (goal.Conv-dyn g (b.vtable, b.value)).conv_holds b.value)) c.args.self.now.slots.items c.in_ok-place.place (plain_handle (plain_room (λ b. (goal.Conv-dyn g (b.vtable, b.value)).conv_holds b.value)) c.in-Open.handle) mine)).started_with,
      ready_at _ _ _ _ (c.in_ok-place.place + 1) (opened (plain_handle (plain_room (λ b. (goal.Conv-dyn g (b.vtable, b.value)).conv_holds b.value)) c.in-Open.handle)) c.held_data_await_cleanup.ensures c.requires (place_there (plain_slot (λ b. (goal.Conv-dyn g (b.vtable, b.value)).conv_holds b.value)) c.args.self.now.slots.items c.in_ok-place.place (plain_handle (plain_room (λ b. (goal.Conv-dyn g (b.vtable, b.value)).conv_holds b.value)) c.in-Open.handle) mine),
    )

pub unreachable-requires : goal.unreachable-requires
unreachable-requires g c =
    let found = found_at _ _ c.in_ok-place.place (subst (λ t. IsFirstOpen c.place_of_first_open.result (first_open 1 (map (plain_slot (λ b. (goal.Conv-dyn g (b.vtable, b.value)).conv_holds b.value)) t))) c.deref.ensures.value c.place_of_first_open.ensures) c.in_ok-place.was in
    let stands = place_is (plain_slot (λ b. (goal.Conv-dyn g (b.vtable, b.value)).conv_holds b.value)) c.args.self.now.slots.items c.in_ok-place.place found.0 found.1 c.swap_remove.result c.swap_remove.ensures.value in
    let open_here : false ≡ true = sym (ap (λ s. is_open ((plain_slot (λ b. (goal.Conv-dyn g (b.vtable, b.value)).conv_holds b.value)) s)) c.in-Closed.is) ∙ ap is_open stands in
    absurd (cc)

-- the transaction that was found, and its slot now
found_here : (g : given.Over) (c : goal.After-ledger_is_sound g)
    → first_open 1 (map (plain_slot (λ b. (goal.Conv-dyn g (b.vtable, b.value)).conv_holds b.value)) c.args.self.now.slots.items) ≡ Some (c.in_ok-place.place + 1, (plain_handle (plain_room (λ b. (goal.Conv-dyn g (b.vtable, b.value)).conv_holds b.value)) c.in-Open.handle))
found_here g c =
    let found = found_at _ _ c.in_ok-place.place (subst (λ t. IsFirstOpen c.place_of_first_open.result (first_open 1 (map (plain_slot (λ b. (goal.Conv-dyn g (b.vtable, b.value)).conv_holds b.value)) t))) c.deref.ensures.value c.place_of_first_open.ensures) c.in_ok-place.was in
    let stands = place_is (plain_slot (λ b. (goal.Conv-dyn g (b.vtable, b.value)).conv_holds b.value)) c.args.self.now.slots.items c.in_ok-place.place found.0 found.1 c.swap_remove.result c.swap_remove.ensures.value in
    found_as ((plain_slot (λ b. (goal.Conv-dyn g (b.vtable, b.value)).conv_holds b.value)) c.swap_remove.result) _ (c.in_ok-place.place + 1) found.0 (plain_handle (plain_room (λ b. (goal.Conv-dyn g (b.vtable, b.value)).conv_holds b.value)) c.in-Open.handle) stands (ap (plain_slot (λ b. (goal.Conv-dyn g (b.vtable, b.value)).conv_holds b.value)) c.in-Open.is) found.1

replaced_here : (g : given.Over) (c : goal.After-ledger_is_sound g)
    → IsReplaced c.args.self.now.slots.items c.put_back.new.slots.items (c.in_ok-place.place + 1) c.swap_remove.result (Closed c.end-conv.result)
replaced_here g c =
    let shorter : length c.swap_remove.new.self.items + 1 ≡ length c.args.self.now.slots.items = search rules in
    put_there (plain_slot (λ b. (goal.Conv-dyn g (b.vtable, b.value)).conv_holds b.value)) c.args.self.now.slots.items c.in_ok-place.place (plain_handle (plain_room (λ b. (goal.Conv-dyn g (b.vtable, b.value)).conv_holds b.value)) c.in-Open.handle) (found_here g c) c.swap_remove.new.self.items c.put_back.new.slots.items c.swap_remove.result (Closed c.end-conv.result)
    c.swap_remove.ensures.value shorter c.put_back.ensures.len (search rules) (search rules) c.put_back.ensures.swapped

put_here : (g : given.Over) (c : goal.After-ledger_is_sound g)
    → IsPut (map (plain_slot (λ b. (goal.Conv-dyn g (b.vtable, b.value)).conv_holds b.value)) c.args.self.now.slots.items) (map (plain_slot (λ b. (goal.Conv-dyn g (b.vtable, b.value)).conv_holds b.value)) c.put_back.new.slots.items) (c.in_ok-place.place + 1) (opened (plain_handle (plain_room (λ b. (goal.Conv-dyn g (b.vtable, b.value)).conv_holds b.value)) c.in-Open.handle)) (closed ((plain_handle (plain_room (λ b. (goal.Conv-dyn g (b.vtable, b.value)).conv_holds b.value)) c.in-Open.handle)).room.conv)
put_here g c = put_as _ _ _ _ _ _ _ (put (plain_slot (λ b. (goal.Conv-dyn g (b.vtable, b.value)).conv_holds b.value)) _ _ _ _ _ (omega arith) (replaced_here g c)) (ap (plain_slot (λ b. (goal.Conv-dyn g (b.vtable, b.value)).conv_holds b.value)) c.in-Open.is) (ap (λ b. closed ((goal.Conv-dyn g (b.vtable, b.value)).conv_holds b.value)) c.end-conv.ensures.conv)

pub returns-clause-keeps : goal.returns-clause-keeps
returns-clause-keeps g c = record {
  tells = tell_as (slot_tells (λ b. (goal.Conv-dyn g (b.vtable, b.value)).conv_tells b.value)) _ _ _ _ _ (replaced_here g c)
      (ap (λ b. (goal.Conv-dyn g (b.vtable, b.value)).conv_tells b.value) c.end-conv.ensures.conv ∙ sym (ap (slot_tells (λ b. (goal.Conv-dyn g (b.vtable, b.value)).conv_tells b.value)) c.in-Open.is));
  world_tells = c.end-conv.ensures.tells;
  sound = end_sound (notes_of (map (player_of (λ b. (goal.Module-dyn g (b.vtable, b.value)).label b.value) (λ b. (goal.Module-dyn g (b.vtable, b.value)).plays b.value) (λ b. (goal.Module-dyn g (b.vtable, b.value)).note b.value) (λ b. (goal.Module-dyn g (b.vtable, b.value)).breaks b.value)) c.args.self.now.gear.mods.items)) _ _ _ _ _ (plain_handle (plain_room (λ b. (goal.Conv-dyn g (b.vtable, b.value)).conv_holds b.value)) c.in-Open.handle) c.args.status _ _ (put_here g c) c.requires c.end-conv.ensures.world c.ledger_is_sound.ensures.numbered c.one_place_moves.ensures.sound;
  moves = end_moves _ _ _ _ _ _ (plain_handle (plain_room (λ b. (goal.Conv-dyn g (b.vtable, b.value)).conv_holds b.value)) c.in-Open.handle) c.args.status _ _ (put_here g c) c.requires c.end-conv.ensures.world c.ledger_is_sound.ensures.numbered c.one_place_moves.ensures.moves;
}

pub returns-clause-closes : goal.returns-clause-closes
returns-clause-closes g c = closes_one _ _ _ _ _ _ (plain_handle (plain_room (λ b. (goal.Conv-dyn g (b.vtable, b.value)).conv_holds b.value)) c.in-Open.handle) _ (found_here g c) (put_here g c).next_is c.end-conv.ensures.world

pub returns-clause-none : goal.returns-clause-none
returns-clause-none g c = some_is_open _ c.in_ok-place.place (plain_handle (plain_room (λ b. (goal.Conv-dyn g (b.vtable, b.value)).conv_holds b.value)) c.in-Open.handle) (c.in_ok-place.place + 1) (found_here g c)
