-- What a module that talks with the user does to a transaction, with real objects too (this project's own).
use Rattle.std.specs.Prelude.{◌≡◌, ◌≤◌, List, ◌++◌}
use Rattle.conv_port.specs.declared.message.Message.{Message}
use Rattle.pam_room.specs.declared.transaction.Transaction.{Transaction}

-- SERVICE stays, the longest request for a delay doesn't shrink, messages are only added, the call may be left
-- incomplete; of the rest only the items may change
pub record OnlyTalks (old new : Transaction) : Type 0 where
  pub service : new.items.service ≡ old.items.service
  pub delay : old.delay ≤ new.delay
  pub said : (more : List Message) × (new.said ≡ old.said ++ more)
  pub others : new ≡ record old {
    items = new.items;
    delay = new.delay;
    said = new.said;
    put_off = new.put_off;
  }
