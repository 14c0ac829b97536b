-- What a step that ran out of memory leaves: the sleep, and for a start the count of failed accesses.
use Rattle.std.proofs.Common.{◌≡◌, ℕ, true, IsOk, OnErr, Some, Result, Ok, Err, refl, ap}
use Rattle.pam_base.specs.declared.call.AppCall.{AppCall}
use Rattle.pam_base.specs.declared.call.AppCall.TheVariants as calls
use Rattle.pam_base.specs.declared.fault.NoMemory.{NoMemory}
use Rattle.pam_base.specs.declared.fault.Refuse.{Refuse}
use Rattle.pam_base.specs.declared.fault.Refuse.TheVariants as refusals
use Rattle.pam_handle.specs.service_load.specs.declared.load_fault.LoadFault.{LoadFault}
use Rattle.pam_handle.specs.Handle.{PlainHandle}
use Rattle.pam_handle.specs.Start.{RefusalCounts}
use Rattle.pam_library.specs.declared.outcome.Outcome.{Outcome}
use Rattle.pam_library.specs.AnyWorld.{HidesNoFault, leaves_world}
use Rattle.pam_library.specs.InPlace.{IsRefused}
use Rattle.pam_library.specs.Slots.{opened}

pub anyway : {T E : Type 0} (result : Result T E) {P : Type 0} → P → OnErr result P
anyway (Ok t) p = tt
anyway (Err e) p = p

pub never : {T E : Type 0} (result : Result T E) (P : Type 0) → IsOk result → OnErr result P
never (Ok t) P ok = tt
never (Err e) P ok = absurd (cc)

-- a refused start
pub refused_quietly : (filed : ℕ) (why : Refuse LoadFault) (result : Result Outcome NoMemory) (before now : ℕ) → IsRefused filed why result → RefusalCounts why before now → OnErr result (now ≡ before)
refused_quietly filed why (Ok o) before now is counts = tt
refused_quietly filed (refusals.Named fault) (Err e) before now is counts = absurd is
refused_quietly filed refusals.NoMemory (Err e) before now is counts = counts

-- a call in an open slot, in which a start leaves the world as it was
pub opened_quietly : {W : Type 0} (faults : W → ℕ) (h : PlainHandle) (call : AppCall) (old new : W) → (leaves_world (Some (opened h)) call ≡ true → new ≡ old) → HidesNoFault call (faults old) (faults new)
opened_quietly faults h (calls.Start service user) old new same = ap faults (same refl)
opened_quietly faults h call old new same = tt
