-- The data that were cleaned up (pam_set_data(3), pam_end(3); the lines are this project's own).
use Rattle.std.specs.Prelude.{ℕ, ◌<◌, List, [], drop, slice_get, unwrap_or, Option, Some, None}
use Rattle.std.specs.List.{flat_map, AllByRecursion}
use Rattle.pam_library.specs.data_cleanup.specs.Ledger.{PlainLedger}
use Rattle.pam_library.specs.data_cleanup.specs.declared.datum.Birth.{Birth}
use Rattle.pam_library.specs.data_cleanup.specs.declared.receipt.Receipt.{Receipt}
use Rattle.pam_library.specs.data_cleanup.specs.declared.receipt.Filed.{Filed}
use Rattle.report_lines.specs.Line as lines

-- the line of a cleanup record, with the name of the owner and that of the data
abbrev pub cleanup_text : ℕ → Receipt → List ℕ → List ℕ → List ℕ
cleanup_text handle receipt owner datum =
    lines.cleanup_text handle (record {
      id = receipt.id;
      status = receipt.status;
      note = receipt.note;
      owner = owner;
      datum = datum;
    })

module _ (handle : ℕ) (names : List (List ℕ)) where
  -- the line of a cleanup record and its data, whose owner has its name at its number, from 0
  abbrev pub receipt_text : Receipt → Option Birth → List ℕ
  receipt_text receipt (Some birth) =
      cleanup_text handle receipt (unwrap_or (slice_get names birth.owner) []) birth.name
  receipt_text receipt None = []

  -- data are numbered in the order in which they were set, from 0
  abbrev pub filed_text : List Birth → Filed → List ℕ
  filed_text births filed = receipt_text filed.receipt (slice_get births filed.receipt.id)

  -- a line for each record of the cleanup log after the first n
  abbrev pub cleanups_text : PlainLedger → ℕ → List ℕ
  cleanups_text ledger filed_from =
      flat_map (filed_text ledger.births) (drop filed_from ledger.filed)

-- all data were set by one of n modules
abbrev pub AreOwned : ℕ → List Birth → Type 0
AreOwned modules births = AllByRecursion (λ (birth : Birth). birth.owner < modules) births
