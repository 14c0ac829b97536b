-- The result of reading an item: what it asks for, why it is refused, or that an allocation failed.
use Rattle.std.specs.Prelude.{◌≡◌, Result, Ok, Err}
use Rattle.pam_base.specs.declared.fault.Refuse.{Refuse}
use Rattle.pam_base.specs.declared.fault.Refuse.TheVariants as refusals

abbrev pub ReadsAs : {A Kind : Type 0} → Result A (Refuse Kind) → Result A Kind → Type 0
ReadsAs (Ok a) asked = asked ≡ Ok a
ReadsAs (Err (refusals.Named kind)) asked = asked ≡ Err kind
ReadsAs (Err refusals.NoMemory) asked = Unit {0}
