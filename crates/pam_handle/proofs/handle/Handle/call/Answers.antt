use Rattle.std.proofs.Common.{Option, is_some, map, length, refl, sym, ◌∙◌, ap, rules}
use Rattle.std.specs.Option.{option_map}
use Rattle.item_store.specs.Items.{ItemTexts}
use Rattle.pam_base.specs.declared.code.Code.TheVariants.{Abort, SystemErr}
use Rattle.dispatch_core.specs.Pending.{first_in, past_in, pending_after}
use Rattle.dispatch_core.specs.pam_room.specs.Module.{notes_of, player_of}
use Rattle.dispatch_core.specs.pam_room.specs.Plain.{plain_room, plain_world}
use Rattle.pam_handle.specs.Call.{request_after, room_with}
use Rattle.pam_handle.specs.Handle.{PlainHandle}
use Rattle.pam_handle.specs.Pass.{kept_answers}
use Rattle.pam_handle.specs.Plain.{pending_of, plain_handle}
use Rattle.pam_handle.specs.StackCalls.{held_in}
use Rattle.pam_handle.specs.declared.put_off.PutOff.{PutOff}
use Rattle.pam_handle.proofs.StackCallFacts.{call_aborted, call_refused, fails_as, leaves_others, leaves_pending, leaves_same, not_false, not_refused, room_end, room_start, runs_soundly, same_call, stops_room, told_as, trail_left}
use Rattle.pam_handle.proofs.OutOfMemoryFacts.{on_err_from, stops_call}
use Rattle.pam_handle.proofs.Tokens.{begins_unset, ends_unset}
use Rattle.pam_handle.proofs.CallTraceFacts.{called_by_trail}
use Rattle.pam_handle.proofs.AuthenticationWaitFacts.{none_plain, not_rested, not_waited, tells_beside, waited_at_end}
use Rattle.pam_handle.proofs.handle.Handle.call.Goals as goal

pub passes-result-requires-clause-unset : goal.passes-result-requires-clause-unset
passes-result-requires-clause-unset g c = begins_unset c.args.func c.args.self.now.pending _ _ _ c.clear_before.ensures (c.resumed_from-paused.ensures.begins ∙ ap is_some c.take.ensures.value)

pub sleep_after-requires-clause-unset : goal.sleep_after-requires-clause-unset
sleep_after-requires-clause-unset g c = ends_unset c.args.func c.passes-result.new.paused c.passes-result.result _ _ _ c.code_waited-ended.ensures c.clear_after.ensures

pub returns-then-is_refused : goal.returns-then-is_refused
returns-then-is_refused g c =
    let refused = sym c.is_refused.ensures ∙ c.if-is_refused.true in
    record {
      tells = refl;
      world_tells = refl;
      told = λ number is told. same_call _ _ _ SystemErr (call_refused _ number c.args.func c.args.flags _ _ refused);
      refused = λ e. (refl, refl, refl);
      aborted = λ free. absurd (not_false _ refused free);
      left = λ free. absurd (not_false _ refused free);
      by_trail = λ free. absurd (not_false _ refused free);
      waited = λ is. absurd (not_refused c.args.func c.args.flags refused is);
      stopped = tt;
      err = tt;
      no_nap = tt;
      others = leaves_same c.args.func _;
      sound = search rules;
      ready = c.requires;
    }

pub returns-then-is_other_pending : goal.returns-then-is_other_pending
returns-then-is_other_pending g c =
    let free = sym c.is_refused.ensures ∙ c.if-is_refused.false in
    let other = sym c.is_other_pending.ensures ∙ c.if-is_other_pending.true in
    record {
      tells = refl;
      world_tells = refl;
      told = λ number is told. same_call _ _ _ Abort (call_aborted _ number c.args.func c.args.flags _ _ free other);
      refused = λ e. absurd (not_false _ e free);
      aborted = λ e f. (refl, refl, refl);
      left = λ e f. absurd (not_false _ other f);
      by_trail = λ e f. absurd (not_false _ other f);
      waited = λ is f. absurd (not_false _ other f);
      stopped = tt;
      err = tt;
      no_nap = tt;
      others = leaves_same c.args.func _;
      sound = search rules;
      ready = c.requires;
    }

pub returns : goal.returns
returns g c =
    let room = plain_room (λ b. (goal.Conv-dyn g (b.vtable, b.value)).conv_holds b.value) in
    let world = plain_world (λ b. (goal.Vault-dyn g (b.vtable, b.value)).vault_holds b.value) (λ b. (goal.Clock-dyn g (b.vtable, b.value)).clock_holds b.value) (λ b. (goal.Nap-dyn g (b.vtable, b.value)).nap_holds b.value) in
    let players = map (player_of (λ b. (goal.Module-dyn g (b.vtable, b.value)).label b.value) (λ b. (goal.Module-dyn g (b.vtable, b.value)).plays b.value) (λ b. (goal.Module-dyn g (b.vtable, b.value)).note b.value) (λ b. (goal.Module-dyn g (b.vtable, b.value)).breaks b.value)) c.args.gear.now.mods.items in
    let h : PlainHandle = plain_handle room c.args.self.now in
    let mid : PlainHandle = plain_handle room c.passes-result.new.self in
    let last : PlainHandle = plain_handle room c.keep_pending.new.self in
    let later = kept_answers c.passes-result.new.first in
    let paused = c.passes-result.new.paused in
    let waited = c.sleep_after.new.waited in
    let free = sym c.is_refused.ensures ∙ c.if-is_refused.false in
    let other = sym c.is_other_pending.ensures ∙ c.if-is_other_pending.false in
    let past = c.resumed_from-paused.ensures.past ∙ ap (λ (p : Option PutOff). past_in (option_map pending_of p)) c.take.ensures.value in
    let first = c.resumed_from-paused.ensures.first ∙ ap (λ (p : Option PutOff). first_in (option_map pending_of p)) c.take.ensures.value in
    let give = c.passes-result.ensures.give in
    let stays = rw (ap (λ (k : PlainHandle). k.waited) give.others) at (not_waited _ _ _ _ _ _ _ c.sleep_after.ensures.sound) in
    let new = c.keep_pending.ensures.plain
    ∙ ap (λ (t : ItemTexts). record mid { room = request_after paused (room_with t mid.room); pending = pending_after c.args.func later paused; waited = waited }) c.clear_after.ensures
    ∙ ap (λ (k : PlainHandle). record k { room = room_end c.args.func paused mid.room; pending = pending_after c.args.func later paused; waited = waited }) give.others in
    let rests = not_rested c.passes-result.result c.args.func paused _ c.passes-result.new.world c.passes-result.new.world c.sleep_after.new.world c.code_waited-ended.ensures refl c.sleep_after.ensures.stays in
    record {
      tells = search rules;
      world_tells = search rules;
      told = λ number is told. told_as c.passes-result.result players number c.args.func c.args.flags h last _ _ _ later _ c.clear_before.new.items mid.room paused mid.authenticated mid.opened waited _ _ c.longest-longest.result _
          free other past first c.clear_before.ensures c.longest-longest.ensures.longest c.code_waited-ended.ensures
          (λ f. rw (ap (λ (k : PlainHandle). k.waited) give.others, ap (λ (k : PlainHandle). k.delay_on) give.others) at (c.sleep_after.ensures.told number (rw f at is) (tells_beside _ _ _ c.passes-result.ensures.stays.world_tells told))) (none_plain world _ c.sleep_after.new.world c.passes-result.new.world c.sleep_after.ensures.stays) stays new (give.told told);
      refused = λ e. absurd (not_false _ e free);
      aborted = λ e f. absurd (not_false _ f other);
      left = λ e f. leaves_pending c.args.func h last mid.room later paused mid.authenticated mid.opened waited new c.passes-result.result _ c.code_waited-ended.ensures stays c.passes-result.ensures.stays.sound.stays.delay give.put_off;
      by_trail = λ e f. called_by_trail c.passes-result.result c.args.func h last _ _ _ _ _ _ past first refl
          (trail_left c.args.func paused mid.room (record h { authenticated = mid.authenticated; opened = mid.opened; pending = pending_after c.args.func later paused; waited = waited }) last new) (ap held_in new) give.by_trail;
      waited = λ is e. waited_at_end (λ b. (goal.Nap-dyn g (b.vtable, b.value)).nap_holds b.value) (λ b. (goal.Nap-dyn g (b.vtable, b.value)).nap_tells b.value) c.args.world.now.nap c.passes-result.new.world.nap _ c.passes-result.result c.args.func later paused _ h last waited
          is c.passes-result.ensures.stays.nap (ap (λ (k : PlainHandle). k.pending) c.keep_pending.ensures.plain) (ap (λ (k : PlainHandle). k.waited) c.keep_pending.ensures.plain) c.code_waited-ended.ensures
          (rw (ap (λ (k : PlainHandle). k.waited) give.others, ap (λ (k : PlainHandle). k.delay_on) give.others) at c.sleep_after.ensures.sound);
      stopped = stops_call c.passes-result.result c.args.func c.args.flags _ _ mid.room _ _ _ (world c.passes-result.new.world) _
          (room_start c.args.func h c.clear_before.new.items c.clear_before.ensures) past first (stops_room c.args.func h last mid.room later paused mid.authenticated mid.opened waited new c.passes-result.result give.paused)
          (on_err_from c.passes-result.result (λ same. ap world same) rests) (on_err_from c.passes-result.result (λ same kept. same ∙ kept) rests) give.stopped;
      err = fails_as c.args.func h last mid.room later paused mid.authenticated mid.opened waited new c.passes-result.result _ c.code_waited-ended.ensures stays give.paused give.authenticated give.opened;
      no_nap = not_rested c.passes-result.result c.args.func paused _ c.args.world.now.nap c.passes-result.new.world.nap _ c.code_waited-ended.ensures c.passes-result.ensures.stays.nap (none_plain (λ w. w.nap) _ c.sleep_after.new.world c.passes-result.new.world c.sleep_after.ensures.stays);
      others = leaves_others c.args.func h last mid.room later paused mid.authenticated mid.opened waited new _ c.passes-result.result c.code_waited-ended.ensures stays give.leaves_authenticated give.leaves_opened;
      sound = runs_soundly c.args.func h last mid.room later paused mid.authenticated mid.opened waited new (notes_of players) (length players) c.clear_before.new.items _ _ c.clear_before.ensures
          (rw c.sleep_after.ensures.process c.passes-result.ensures.stays.sound);
      ready = search rules;
    }
