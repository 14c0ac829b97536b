-- The result of reading a table (this project's own).
use Rattle.std.specs.Prelude.{◌≡◌, ℕ, List, Result, Ok, Err}
use Rattle.module_table.specs.declared.entry.Entry.{Entry}
use Rattle.module_table.specs.declared.table.TableFault.{TableFault}
use Rattle.module_table.specs.declared.table.TableFault.TheVariants.{NoMemory, Malformed}

-- the entries, or the first line that isn't one; an allocation may fail
abbrev pub Reads : Result (List Entry) TableFault → Result (List Entry) (List ℕ) → Type 0
Reads (Ok table) meant = meant ≡ Ok table
Reads (Err NoMemory) meant = Unit {0}
Reads (Err (Malformed line)) meant = meant ≡ Err line.now
