use Rattle.std.proofs.Common.{◌≡◌, ◌+◌, length, arith}
use Rattle.std.proofs.lemmas.Grind.{common_steps}
use Rattle.data_cleanup.proofs.Sound.{sound_bear, numbered_bear, filed_within}
use Rattle.data_cleanup.proofs.ledger.Ledger.add_birth.Goals as goal

pub overflow_sub-id : goal.overflow_sub-id
overflow_sub-id c = omega (arith, c.len.ensures, c.len-id.ensures, filed_within _ _ c.self.invariant.sound)

pub invariant_of-self-2 : goal.invariant_of-self-2
invariant_of-self-2 c =
    let longer : length c.push.new.self ≡ length c.self.inside.births + 1 = grind (arith, common_steps, c.in_ok-push.ensures.ok) in
    record {
      sound = rw c.in_ok-reserve.ensures.items (sound_bear _ _ _ (omega (arith, longer)) c.self.invariant.sound);
      room = omega (arith, longer, c.in_ok-reserve.ensures.ok, c.in_ok-reserve.ensures.len, c.len.ensures, c.len-id.ensures);
      numbered = numbered_bear _ _ _ c.in_ok-push.ensures.ok c.len-id.ensures c.self.invariant.numbered;
    }
