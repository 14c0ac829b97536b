-- What a module leaves, part by part; and what two calls one after the other leave as it was.
use Rattle.std.proofs.Common.{◌≡◌, List, ◌++◌, refl, ◌∙◌, ap, append_assoc, arith}
use Rattle.conv_port.specs.declared.message.Message.{Message}
use Rattle.pam_room.specs.State.{PlainTransaction, PlainProcess, Scene, room_of, scene_of}
use Rattle.pam_room.specs.Stays.{Stays}
use Rattle.pam_room.specs.Module.{LeavesAs, Played, SeenRoom, with_played}

pub parts_played : (p : Played) (old new : Scene) → old.room.transaction.datums.handle ≡ old.room.transaction.handle → LeavesAs p old new
    → new ≡ with_played p old
parts_played p old new number l =
    let t = new.room.transaction in
    let items = ap (λ (r : SeenRoom). r.items) l.seen in
    let env = ap (λ (r : SeenRoom). r.env) l.seen in
    let delay = ap (λ (r : SeenRoom). r.delay) l.seen in
    let said = ap (λ (r : SeenRoom). r.said) l.seen in
    let put_off = ap (λ (r : SeenRoom). r.put_off) l.seen in
    let conv = ap (λ (r : SeenRoom). r.conv) l.seen in
    let whole : scene_of (room_of (record {
      items = t.items;
      env = t.env;
      datums = t.datums;
      delay = t.delay;
      said = t.said;
      trail = t.trail;
      handle = t.handle;
      serving = t.serving;
      put_off = t.put_off;
    }) new.room.conv) new.vault new.clock (record { ledger = new.process.ledger; root = new.process.root; caller = new.process.caller }) ≡ with_played p old =
    rw (items, env, l.births.list, delay, said, l.trail, l.handle, l.serving, put_off, conv, l.vault, l.clock, l.births.ledger, l.root, l.caller, number) refl in
    whole

pub stays_on : (x y z : PlainTransaction) (a b c : PlainProcess) → Stays x y a b → Stays y z b c → Stays x z a c
stays_on x y z a b c s t = record {
  handle = t.handle ∙ s.handle;
  data_handle = t.data_handle ∙ s.data_handle;
  service = t.service ∙ s.service;
  delay = omega arith;
  said = (s.said.0 ++ t.said.0, t.said.1 ∙ ap (λ (m : List Message). m ++ t.said.0) s.said.1 ∙ append_assoc x.said _ _);
  root = t.root ∙ s.root;
  caller = t.caller ∙ s.caller;
}
