-- A cleanup log in order (pam_set_data(3), pam_end(3)), with real objects too.
use Rattle.std.specs.Prelude.{◌≡◌, ◌<◌, ◌≤◌, nat_eq, List, length}
use Rattle.std.specs.List.{AllByRecursion, IsDistinct}
use Rattle.data_cleanup.specs.Ledger.{PlainLedger, AreNumbered, filed_ids}
use Rattle.data_cleanup.specs.Cleanup.{Notes, data_replace}
use Rattle.data_cleanup.specs.declared.datum.Birth.{Birth}
use Rattle.data_cleanup.specs.declared.receipt.Filed.{Filed}

-- The record's number is what the owner's cleanup returned. If a set of the same transaction and
-- name comes after this one and before the position of the record, the status says that the data
-- were replaced.
pub record IsReceiptOf (note : Notes) (births : List Birth) (b : Birth) (f : Filed) : Type 0 where
  pub by_owner : f.receipt.note ≡ note b.owner b.payload f.receipt.status
  pub due_status : AllByRecursion (λ (later : Birth).
      b.id < later.id → later.id < f.mark → later.handle ≡ b.handle → later.name ≡ b.name
      → f.receipt.status ≡ data_replace) births

-- the cleanup record of a set before its position
pub record IsTidy (note : Notes) (births : List Birth) (f : Filed) : Type 0 where
  pub below : f.receipt.id < f.mark
  pub within : f.mark ≤ length births
  pub is_of : AllByRecursion (λ (b : Birth). b.id ≡ f.receipt.id → IsReceiptOf note births b f)
      births

-- The id of each set is its position, no id is cleaned up twice, and each cleanup record is in order.
pub record Tidy (note : Notes) (ledger : PlainLedger) : Type 0 where
  pub numbered : AreNumbered 0 ledger.births
  pub once : IsDistinct nat_eq (filed_ids ledger.filed)
  pub each : AllByRecursion (IsTidy note ledger.births) ledger.filed
