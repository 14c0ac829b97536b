-- A step that is read from a frame is one that may be asked for.
use Rattle.std.proofs.Common.{◌≡◌, ℕ, Bool, true, false, ◌&&◌, cond, List, [], ◌∷◌, length, take, drop, Option, Some, None, nat_le, refl, subst}
use Rattle.std.proofs.lemmas.Bool.{and_parts}
use Rattle.std.proofs.lemmas.Option.{same_Some}
use Rattle.std.specs.Prelude.{option_map}
use Rattle.pam_base.specs.declared.call.AppCall.{AppCall}
use Rattle.pam_base.specs.declared.call.AppCall.TheVariants as calls
use Rattle.pam_base.specs.declared.item.ItemName.{ItemName}
use Rattle.pam_base.specs.Call.{is_fit}
use Rattle.pam_base.specs.ServiceName.{is_service_name}
use Rattle.pam_base.specs.declared.call.CallName.{CallName}
use Rattle.pam_base.specs.declared.call.CallName.TheVariants as names
use Rattle.pam_base.specs.declared.call.Func.TheVariants as funcs
use Rattle.pam_wire.specs.Read.{number_in, text_in, name_in, value_in, switch_in, item_in, item_of_number, setting_of, setting_in, start_in, list_in, call_in}
use Rattle.pam_wire.proofs.Rests.{mapped, text-written}

made : {A : Type 0} (f : A → AppCall) → ((x : A) → is_fit (f x) ≡ true) → (o : Option A) (call : AppCall) → option_map f o ≡ Some call → is_fit call ≡ true
made f fits o call e = let m = mapped f o call e in subst (λ c. is_fit c ≡ true) m.2 (fits m.0)

reply : (rest : List ℕ) (call : AppCall) → option_map calls.Reply (text_in rest) ≡ Some call → is_fit call ≡ true
reply rest call e =
    let m = mapped calls.Reply (text_in rest) call e in
    subst (λ c. is_fit c ≡ true) m.2 (text-written rest m.0 m.1).1

setting_by : (o : Option ItemName) (rest : List ℕ) (call : AppCall) → setting_of o rest ≡ Some call → is_fit call ≡ true
setting_by None rest call e = absurd cc
setting_by (Some item) rest call e = made (calls.SetItem item) (λ x. refl) (value_in rest) call e

setting : (rest : List ℕ) (call : AppCall) → setting_in rest ≡ Some call → is_fit call ≡ true
setting [] call e = absurd cc
setting (b ∷ rest) call e = setting_by (item_of_number b) rest call e

start_by : (size : ℕ) (rest : List ℕ) (call : AppCall) (t : Bool) → (nat_le size (length rest) && is_service_name (take size rest)) ≡ t
    → cond t (option_map (calls.Start (take size rest)) (value_in (drop size rest))) None ≡ Some call → is_fit call ≡ true
start_by size rest call true h e = made (calls.Start (take size rest)) (λ x. (and_parts (nat_le size (length rest)) (is_service_name (take size rest)) h).1) (value_in (drop size rest)) call e
start_by size rest call false h e = absurd cc

start : (rest : List ℕ) (call : AppCall) → start_in rest ≡ Some call → is_fit call ≡ true
start [] call e = absurd cc
start (size ∷ rest) call e = start_by size rest call _ refl e

envlist : (rest : List ℕ) (call : AppCall) → list_in rest ≡ Some call → is_fit call ≡ true
envlist [] call e = subst (λ c. is_fit c ≡ true) (same_Some calls.EnvList call e) refl
envlist (b ∷ bs) call e = absurd cc

pub call_fits : (kind : CallName) (rest : List ℕ) (call : AppCall) → call_in kind rest ≡ Some call → is_fit call ≡ true
call_fits names.Start rest call e = start rest call e
call_fits names.End rest call e = made calls.End (λ x. refl) (number_in rest) call e
call_fits (names.Run funcs.Authenticate) rest call e = made calls.Authenticate (λ x. refl) (number_in rest) call e
call_fits (names.Run funcs.SetCred) rest call e = made calls.SetCred (λ x. refl) (number_in rest) call e
call_fits (names.Run funcs.AcctMgmt) rest call e = made calls.AcctMgmt (λ x. refl) (number_in rest) call e
call_fits (names.Run funcs.OpenSession) rest call e = made calls.OpenSession (λ x. refl) (number_in rest) call e
call_fits (names.Run funcs.CloseSession) rest call e = made calls.CloseSession (λ x. refl) (number_in rest) call e
call_fits (names.Run funcs.ChAuthTok) rest call e = made calls.ChAuthTok (λ x. refl) (number_in rest) call e
call_fits names.SetItem rest call e = setting rest call e
call_fits names.GetItem rest call e = made calls.GetItem (λ x. refl) (item_in rest) call e
call_fits names.PutEnv rest call e = made calls.PutEnv (λ x. refl) (text_in rest) call e
call_fits names.GetEnv rest call e = made calls.GetEnv (λ x. refl) (name_in rest) call e
call_fits names.EnvList rest call e = envlist rest call e
call_fits names.FailDelay rest call e = made calls.FailDelay (λ x. refl) (number_in rest) call e
call_fits names.DelayFn rest call e = made calls.DelayFn (λ x. refl) (switch_in rest) call e
call_fits names.Reply rest call e = reply rest call e
