-- What a module does to module data: it sets some (pam_set_data(3)).
use Rattle.std.specs.Prelude.{◌≡◌, ℕ, List, ◌++◌}
use Rattle.std.specs.List.{AllByRecursion}
use Rattle.data_cleanup.specs.DataList.{PlainDataList, hold_all}
use Rattle.data_cleanup.specs.Ledger.{PlainLedger}
use Rattle.data_cleanup.specs.declared.datum.Birth.{Birth}

-- a set by this transaction and this owner
pub record IsBy (handle owner : ℕ) (b : Birth) : Type 0 where
  pub handle_is : b.handle ≡ handle
  pub owner_is : b.owner ≡ owner

-- The module with this number set some data of the list's transaction, and nothing was cleaned up.
pub record Sets (owner : ℕ) (old : PlainDataList) (before : PlainLedger) (new : PlainDataList)
    (after : PlainLedger) : Type 0 where
  pub added : List Birth
  pub births : after.births ≡ before.births ++ added
  pub each : AllByRecursion (IsBy old.handle owner) added
  pub list : new ≡ hold_all old added
  pub filed : after.filed ≡ before.filed
