-- What a module that sets no data leaves of a transaction, with real objects too (this project's own).
use Rattle.std.specs.Prelude.{◌≡◌}
use Rattle.pam_room.specs.declared.transaction.Transaction.{Transaction}
use Rattle.pam_room.specs.Plain.{plain_transaction}
use Rattle.pam_room.specs.State.{PlainProcess}
use Rattle.pam_room.specs.Stays.{Stays}

-- the data, the trace and the module's own number are as they were; of the rest it keeps what each module keeps
pub record SetsNoData (old new : Transaction) : Type 0 where
  pub stays : (process : PlainProcess) →
      Stays (plain_transaction old) (plain_transaction new) process process
  pub serving : new.serving ≡ old.serving
  pub trail : new.trail ≡ old.trail
  pub datums : new.datums ≡ old.datums
