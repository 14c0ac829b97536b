-- What a module that changes only the environment does to a transaction, with real objects too (this project's own).
use Rattle.std.specs.Prelude.{◌≡◌}
use Rattle.module_acts.specs.pam_room.specs.declared.transaction.Transaction.{Transaction}

pub record Puts (old new : Transaction) : Type 0 where
  pub others : new ≡ record old { env = new.env }
