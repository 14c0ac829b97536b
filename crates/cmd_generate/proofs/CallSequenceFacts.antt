-- Calls of a library, one after another.
use Rattle.std.proofs.Common.{ℕ, Option, Some, None, refl}
use Rattle.pam_base.specs.declared.call.AppCall.TheVariants as calls
use Rattle.cmd_run.specs.pam_library.specs.AnyWorld.{end_at}
use Rattle.cmd_run.specs.pam_library.specs.Slots.{PlainSlot, closed, opened}
use Rattle.cmd_run.specs.Ends.{EndsAre}
use Rattle.cmd_generate.specs.Login.{IsEndWith, NoEnd, authenticate_call, start_call}

pub start_ends_none : (slot : Option PlainSlot) → EndsAre NoEnd (end_at slot 1 start_call)
start_ends_none None = tt
start_ends_none (Some (closed conv)) = tt
start_ends_none (Some (opened h)) = tt

pub authenticate_ends_none : (slot : Option PlainSlot) → EndsAre NoEnd (end_at slot 1 authenticate_call)
authenticate_ends_none None = tt
authenticate_ends_none (Some (closed conv)) = tt
authenticate_ends_none (Some (opened h)) = tt

pub end_ends : (status : ℕ) (slot : Option PlainSlot) → EndsAre (IsEndWith status) (end_at slot 1 (calls.End status))
end_ends status None = tt
end_ends status (Some (closed conv)) = tt
end_ends status (Some (opened h)) = ((refl, refl), tt)
