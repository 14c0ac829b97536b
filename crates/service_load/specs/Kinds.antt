-- Which faults come from reading a file (this project's own): ReadFailed alone.
use Rattle.std.specs.Prelude.{◌≡◌, ℕ, Bool, true, false, Result, Err}
use Rattle.pam_base.specs.declared.fault.Refuse.{Refuse}
use Rattle.pam_base.specs.declared.fault.Refuse.TheVariants.{Named}
use Rattle.pam_base.specs.declared.fault.FaultKind.{FaultKind}
use Rattle.pam_base.specs.declared.fault.FaultKind.TheVariants.{ReadFailed}
use Rattle.pam_outside.specs.Counts.{Rose}

-- whether a fault is that a file couldn't be read
abbrev pub is_read_failed : FaultKind → Bool
is_read_failed ReadFailed = true
is_read_failed kind = false

-- a fault that was named has this property
abbrev pub IfNamed : {A F : Type 0} → Result A (Refuse F) → (F → Type 0) → Type 0
IfNamed (Err (Named f)) P = P f
IfNamed result P = Unit {0}

-- the count of faults rose if a file couldn't be read, and stays with every other fault
abbrev pub KindCounts : FaultKind → ℕ → ℕ → Type 0
KindCounts ReadFailed before now = Rose before now
KindCounts kind before now = now ≡ before
