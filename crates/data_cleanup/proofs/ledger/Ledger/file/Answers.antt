use Rattle.std.proofs.Common.{arith, subst, sym}
use Rattle.data_cleanup.specs.Ledger.{PlainLedger, IsOutstanding}
use Rattle.data_cleanup.proofs.Sound.{sound_file, room_left}
use Rattle.data_cleanup.proofs.ledger.Ledger.file.Goals as goal

pub unwrap-requires : goal.unwrap-requires
unwrap-requires c =
    let is_open = subst (λ (b : PlainLedger). IsOutstanding b c.args.receipt.id) (sym c.self.view_is) c.requires in
    let left = room_left _ _ _ is_open c.self.invariant.sound in
    c.push.ensures.succeeds (omega (arith, left, c.self.invariant.room))

pub invariant_of-self : goal.invariant_of-self
invariant_of-self c =
    let is_open = subst (λ (b : PlainLedger). IsOutstanding b c.args.receipt.id) (sym c.self.view_is) c.requires in
    record {
      sound = rw (rw c.unwrap.ensures at c.push.ensures.items) (sound_file _ _ _ is_open c.len-mark.ensures c.self.invariant.sound);
      room = omega (arith, c.push.ensures.capacity, c.self.invariant.room);
      numbered = c.self.invariant.numbered;
    }
