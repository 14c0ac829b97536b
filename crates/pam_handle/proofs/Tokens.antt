-- No token of an earlier call is set when the passes of a call begin, and none is set when it waits.
use Rattle.std.proofs.Common.{◌≡◌, List, Option, Some, None, Result, Ok, Err, true, false, is_some, refl, sym, ◌∙◌, ap}
use Rattle.std.specs.Prelude.{IfSome}
use Rattle.std.specs.Option.{option_map}
use Rattle.item_store.specs.Items.{ItemTexts}
use Rattle.pam_base.specs.declared.code.Code.{Code}
use Rattle.pam_base.specs.declared.call.Func.{Func}
use Rattle.pam_base.specs.declared.call.Func.TheVariants.{Authenticate, ChAuthTok}
use Rattle.pam_base.specs.declared.fault.NoMemory.{NoMemory}
use Rattle.pam_handle.specs.AnyWorld.{AreUnset, BeginsUnset}
use Rattle.pam_handle.specs.Call.{clears_tokens, code_waited, items_after, items_before}
use Rattle.pam_handle.specs.Plain.{pending_of}
use Rattle.pam_handle.specs.declared.put_off.PutOff.{PutOff}

false_true : false ≡ true → ⊥
false_true e = (cc)

-- with nothing to resume, the tokens were cleared
cleared : (func : Func) (items old : ItemTexts) → items ≡ items_before func None old → clears_tokens func ≡ true → AreUnset items
cleared Authenticate items old is clears = (ap (λ (i : ItemTexts). i.auth_tok) is, ap (λ (i : ItemTexts). i.old_auth_tok) is)
cleared ChAuthTok items old is clears = (ap (λ (i : ItemTexts). i.auth_tok) is, ap (λ (i : ItemTexts). i.old_auth_tok) is)
cleared func items old is clears = absurd (false_true clears)

pub begins_unset : (func : Func) (pending : Option PutOff) (paused : Option (List Code)) (items old : ItemTexts)
    → items ≡ items_before func (option_map pending_of pending) old → is_some paused ≡ is_some pending → BeginsUnset func paused items
begins_unset func None paused items old is same clears none = cleared func items old is clears
begins_unset func (Some p) paused items old is same clears none = absurd (false_true (sym (ap is_some none) ∙ same))

-- a call that waits has cleared them
waits_unset : (func : Func) (paused : Option (List Code)) (result : Result Code NoMemory) (items : ItemTexts)
    → IfSome (code_waited func paused result) (λ _. AreUnset (items_after func paused items))
waits_unset Authenticate None (Ok code) items = (refl, refl)
waits_unset Authenticate None (Err none) items = tt
waits_unset Authenticate (Some past) result items = tt
waits_unset func paused result items = tt

pub ends_unset : (func : Func) (paused : Option (List Code)) (result : Result Code NoMemory) (ended : Option Code) (items old : ItemTexts)
    → ended ≡ code_waited func paused result → items ≡ items_after func paused old → IfSome ended (λ _. AreUnset items)
ends_unset func paused result ended items old e i = rw (e, i) (waits_unset func paused result old)
