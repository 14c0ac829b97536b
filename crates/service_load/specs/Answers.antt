-- What calls that may run out of memory return (this project's own).
use Rattle.std.specs.Prelude.{◌≡◌, List, ◌++◌, Result, Ok, Err}
use Rattle.pam_base.specs.declared.fault.Refuse.{Refuse}
use Rattle.pam_base.specs.declared.fault.Refuse.TheVariants.{NoMemory, Named}

-- unless an allocation failed, the result is what was returned
abbrev pub Answers : {A F : Type 0} → Result A (Refuse F) → Result A F → Type 0
Answers (Ok x) answer = answer ≡ Ok x
Answers (Err (Named f)) answer = answer ≡ Err f
Answers (Err NoMemory) answer = Unit {0}

-- the result of a call that is made from another call's result
abbrev pub result_map : {A B F : Type 0} → (A → B) → Result A F → Result B F
result_map f (Ok x) = Ok (f x)
result_map f (Err e) = Err e

-- the elements that were there come before those that another call adds
abbrev pub with_rules_first : {A F : Type 0} → List A → Result (List A) F → Result (List A) F
with_rules_first front (Ok more) = Ok (front ++ more)
with_rules_first front (Err f) = Err f

-- unless memory ran out, these were added to a list, or there is this fault
abbrev pub AddsTo : {T A F : Type 0} → Result T (Refuse F) → List A → List A → Result (List A) F
    → Type 0
AddsTo (Ok x) old new more = with_rules_first old more ≡ Ok new
AddsTo (Err (Named f)) old new more = more ≡ Err f
AddsTo (Err NoMemory) old new more = Unit {0}

-- this fault, unless memory ran out
abbrev pub IsRefusal : {F : Type 0} → Refuse F → F → Type 0
IsRefusal (Named f) fault = f ≡ fault
IsRefusal NoMemory fault = Unit {0}
