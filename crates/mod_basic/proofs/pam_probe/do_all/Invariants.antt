use Rattle.std.proofs.Common.{◌≡◌, ◌≤◌, ◌++◌, List, IsTrue, length}
use Rattle.conv_port.specs.declared.message.Message.{Message}
use Rattle.pam_room.specs.State.{room_of}
use Rattle.pam_room.specs.Module.{seen_of}
use Rattle.pam_room.specs.Plain.{plain_transaction}
use Rattle.mod_basic.proofs.ProbeStateFacts.{Midway}
use Rattle.mod_basic.proofs.pam_probe.do_all.Given as goal

abbrev pub invariant-loop-rest : goal.invariant-loop-rest
invariant-loop-rest g l = record {
  midway : Midway (IsTrue ((goal.Conv-dyn g l.fn.conv.now).conv_tells l.fn.conv.now.1)) l.fn.transaction.serving l.fn.args l.rest
      (seen_of (room_of (plain_transaction l.fn.transaction) ((goal.Conv-dyn g l.fn.conv.now).conv_holds l.fn.conv.now.1)))
      (seen_of (room_of (plain_transaction l.transaction) ((goal.Conv-dyn g l.conv.now).conv_holds l.conv.now.1)))
      l.fn.transaction.datums l.fn.ledger l.transaction.datums l.ledger;
  tells : (goal.Conv-dyn g l.conv.now).conv_tells l.conv.now.1 ≡ (goal.Conv-dyn g l.fn.conv.now).conv_tells l.fn.conv.now.1;
  delay : l.fn.transaction.delay ≤ l.transaction.delay;
  said : (more : List Message) × (l.transaction.said ≡ l.fn.transaction.said ++ more);
  others : l.transaction ≡ record l.fn.transaction {
    datums = l.transaction.datums;
    delay = l.transaction.delay;
    said = l.transaction.said;
    put_off = l.transaction.put_off;
  };
}

abbrev pub decreases-loop-rest : goal.decreases-loop-rest
decreases-loop-rest g l = length l.rest
