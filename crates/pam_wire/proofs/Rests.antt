-- What follows a kind: what is written is read, and what is read was written that way.
use Rattle.std.proofs.Common.{◌≡◌, ℕ, zero, suc, ◌^◌, ◌<◌, Bool, true, false, ◌&&◌, cond, eqb, List, [], ◌∷◌, ◌++◌, length, take, drop, get_or, Option, Some, None, nat_le, refl, sym, ap, subst, ◌∙◌, arith, length-append}
use Rattle.std.proofs.Math.Seq.{take-append_seam, drop-append_seam}
use Rattle.std.proofs.lemmas.Bool.{leb-true, le-leb, lt-ltb, ltb-true, eqb-true, and_parts, and_from}
use Rattle.std.proofs.lemmas.List.{take-append-drop, length-take-le}
use Rattle.std.proofs.lemmas.List.Elements.{All-head, All-tail}
use Rattle.std.proofs.lemmas.Nat.{be_bytes_4, from_be_bytes-to_be_bytes_4}
use Rattle.std.proofs.lemmas.Option.{same_Some}
use Rattle.std.specs.Int.{w32, from_be_bytes}
use Rattle.std.specs.List.{find}
use Rattle.std.specs.Prelude.{option_map}
use Rattle.pam_base.specs.declared.call.AppCall.{AppCall}
use Rattle.pam_base.specs.declared.call.AppCall.TheVariants as calls
use Rattle.pam_base.specs.declared.item.ItemName.{ItemName}
use Rattle.pam_base.specs.declared.item.ItemName.TheVariants as items
use Rattle.pam_base.specs.Item.{item_number, all_items}
use Rattle.pam_base.specs.ServiceName.{is_service_name}
use Rattle.pam_base.specs.declared.call.CallName.{CallName}
use Rattle.pam_base.specs.declared.call.CallName.TheVariants as names
use Rattle.pam_base.specs.declared.call.Func.TheVariants as funcs
use Rattle.pam_wire.specs.Frame.{AreBytes, number_bytes, value_bytes, switch_bytes, rest_of, is_number, is_text, is_value, is_name, is_sound}
use Rattle.pam_base.specs.Call.{all_calls, name_of_call}
use Rattle.pam_wire.specs.Kind.{call_of_number, number_of}
use Rattle.pam_wire.specs.Read.{number_in, text_in, name_in, no_text, value_in, switch_in, item_in, item_of_number, setting_of, setting_in, start_in, list_in, call_in}

-- ---- in general

pub mapped : {A B : Type 0} (f : A → B) (o : Option A) (y : B) → option_map f o ≡ Some y → (x : A) × (o ≡ Some x) × (f x ≡ y)
mapped f (Some x) y e = (x, refl, same_Some (f x) y e)
mapped f None y e = absurd cc

found_by : {X : Type 0} (p : X → Bool) (y : X) (ys : List X) (x : X) (t : Bool) → p y ≡ t → (find p ys ≡ Some x → p x ≡ true) → cond t (Some y) (find p ys) ≡ Some x → p x ≡ true
found_by p y ys x true h rest e = subst (λ z. p z ≡ true) (same_Some y x e) h
found_by p y ys x false h rest e = rest e

pub found : {X : Type 0} (p : X → Bool) (xs : List X) (x : X) → find p xs ≡ Some x → p x ≡ true
found p [] x e = absurd cc
found p (y ∷ ys) x e = found_by p y ys x (p y) refl (found p ys x) e

-- each byte of some bytes
pub small : (bytes : List ℕ) → AreBytes bytes → (i : ℕ) → get_or bytes i 0 < 256
small [] all i = omega arith
small (b ∷ bs) all zero = All-head (λ b. b < 256) b bs all
small (b ∷ bs) all (suc i) = small bs (All-tail (λ b. b < 256) b bs all) i

-- ---- numbers

pub number-read : (n : ℕ) → is_number n ≡ true → number_in (number_bytes n) ≡ Some n
number-read n e = ap Some (from_be_bytes-to_be_bytes_4 n (ltb-true n (2 ^ 32) e))

record IsNumberOf (rest : List ℕ) (n : ℕ) : Type 0 where
  bytes : number_bytes n ≡ rest
  within : is_number n ≡ true

number_by : (rest : List ℕ) (n : ℕ) (t : Bool) → AreBytes rest → eqb (length rest) 4 ≡ t → cond t (Some (from_be_bytes w32 rest)) None ≡ Some n → IsNumberOf rest n
number_by rest n true all h e =
    let is = same_Some _ n e in
    let a = small rest all 0 in
    let b = small rest all 1 in
    let c = small rest all 2 in
    let d = small rest all 3 in
    record { bytes = be_bytes_4 rest n (eqb-true (length rest) 4 h) (small rest all) (sym is); within = lt-ltb n (2 ^ 32) (omega (arith, is, a, b, c, d)) }
number_by rest n false all h e = absurd cc

number-written : (rest : List ℕ) (n : ℕ) → AreBytes rest → number_in rest ≡ Some n → IsNumberOf rest n
number-written rest n all e = number_by rest n (eqb (length rest) 4) all refl e

-- ---- texts

text_by : (rest text : List ℕ) (t : Bool) → is_text rest ≡ t → cond t (Some rest) None ≡ Some text → (text ≡ rest) × (is_text text ≡ true)
text_by rest text true h e = let is = same_Some rest text e in (sym is, subst (λ z. is_text z ≡ true) is h)
text_by rest text false h e = absurd cc

pub text-written : (rest text : List ℕ) → text_in rest ≡ Some text → (text ≡ rest) × (is_text text ≡ true)
text-written rest text e = text_by rest text (is_text rest) refl e

name_by : (rest name : List ℕ) (t : Bool) → is_name rest ≡ t → cond t (Some rest) None ≡ Some name → (name ≡ rest) × (is_name name ≡ true)
name_by rest name true h e = let is = same_Some rest name e in (sym is, subst (λ z. is_name z ≡ true) is h)
name_by rest name false h e = absurd cc

name-written : (rest name : List ℕ) → name_in rest ≡ Some name → (name ≡ rest) × (is_name name ≡ true)
name-written rest name e = name_by rest name (is_name rest) refl e

-- ---- a value, or none

pub value-read : (value : Option (List ℕ)) → is_value value ≡ true → value_in (value_bytes value) ≡ Some value
value-read None e = refl
value-read (Some text) e = rw e refl

record IsValueOf (rest : List ℕ) (value : Option (List ℕ)) : Type 0 where
  bytes : value_bytes value ≡ rest
  within : is_value value ≡ true

value_none : (b : ℕ) (text : List ℕ) (value : Option (List ℕ)) → eqb b 0 ≡ true → no_text text ≡ Some value → IsValueOf (b ∷ text) value
value_none b [] value h e =
    subst (λ v. IsValueOf (b ∷ []) v) (same_Some None value e) (record { bytes = ap (λ z. z ∷ []) (sym (eqb-true b 0 h)); within = refl })
value_none b (c ∷ text) value h e = absurd cc

value_some : (b : ℕ) (text : List ℕ) (value : Option (List ℕ)) → eqb b 1 ≡ true → option_map Some (text_in text) ≡ Some value → IsValueOf (b ∷ text) value
value_some b text value h e =
    let m = mapped Some (text_in text) value e in
    let t = text-written text m.0 m.1 in
    subst (λ v. IsValueOf (b ∷ text) v) m.2 (record { bytes = rw (t.0, eqb-true b 1 h) refl; within = t.1 })

value_by : (b : ℕ) (text : List ℕ) (value : Option (List ℕ)) (t u : Bool) → eqb b 0 ≡ t → eqb b 1 ≡ u
    → cond t (no_text text) (cond u (option_map Some (text_in text)) None) ≡ Some value → IsValueOf (b ∷ text) value
value_by b text value true u h k e = value_none b text value h e
value_by b text value false true h k e = value_some b text value k e
value_by b text value false false h k e = absurd cc

value-written : (rest : List ℕ) (value : Option (List ℕ)) → value_in rest ≡ Some value → IsValueOf rest value
value-written [] value e = absurd cc
value-written (b ∷ text) value e = value_by b text value (eqb b 0) (eqb b 1) refl refl e

-- ---- switches

switch_by : (b : ℕ) (on : Bool) (t u : Bool) → eqb b 0 ≡ t → eqb b 1 ≡ u → cond t (Some false) (cond u (Some true) None) ≡ Some on → switch_bytes on ≡ b ∷ []
switch_by b on true u h k e =
    subst (λ o. switch_bytes o ≡ b ∷ []) (same_Some false on e) (ap (λ z. z ∷ []) (sym (eqb-true b 0 h)))
switch_by b on false true h k e =
    subst (λ o. switch_bytes o ≡ b ∷ []) (same_Some true on e) (ap (λ z. z ∷ []) (sym (eqb-true b 1 k)))
switch_by b on false false h k e = absurd cc

switch-written : (rest : List ℕ) (on : Bool) → switch_in rest ≡ Some on → switch_bytes on ≡ rest
switch-written [] on e = absurd cc
switch-written (b ∷ []) on e = switch_by b on (eqb b 0) (eqb b 1) refl refl e
switch-written (b ∷ c ∷ rest) on e = absurd cc

-- ---- items

pub item-read : (item : ItemName) → item_of_number (item_number item) ≡ Some item
item-read items.Service = refl
item-read items.User = refl
item-read items.Tty = refl
item-read items.Rhost = refl
item-read items.Conv = refl
item-read items.AuthTok = refl
item-read items.OldAuthTok = refl
item-read items.Ruser = refl
item-read items.UserPrompt = refl
item-read items.FailDelay = refl
item-read items.XDisplay = refl
item-read items.XAuthData = refl
item-read items.AuthTokType = refl

item_number-read : (number : ℕ) (item : ItemName) → item_of_number number ≡ Some item → item_number item ≡ number
item_number-read number item e = eqb-true (item_number item) number (found (λ item. eqb (item_number item) number) all_items item e)

item-written : (rest : List ℕ) (item : ItemName) → item_in rest ≡ Some item → item_number item ∷ [] ≡ rest
item-written [] item e = absurd cc
item-written (b ∷ []) item e = ap (λ z. z ∷ []) (item_number-read b item e)
item-written (b ∷ c ∷ rest) item e = absurd cc

-- ---- the call of a kind

pub record IsCallOf (kind : CallName) (rest : List ℕ) (call : AppCall) : Type 0 where
  pub kind_is : name_of_call call ≡ kind
  pub bytes : rest_of call ≡ rest
  pub within : is_sound call ≡ true

number_call : (f : ℕ → AppCall) (kind : CallName) → ((rest : List ℕ) (n : ℕ) → IsNumberOf rest n → IsCallOf kind rest (f n)) → (rest : List ℕ) (call : AppCall) → AreBytes rest
    → option_map f (number_in rest) ≡ Some call → IsCallOf kind rest call
number_call f kind made rest call all e =
    let m = mapped f (number_in rest) call e in
    subst (λ c. IsCallOf kind rest c) m.2 (made rest m.0 (number-written rest m.0 all m.1))

text_call : (f : List ℕ → AppCall) (kind : CallName) → ((rest : List ℕ) → is_text rest ≡ true → IsCallOf kind rest (f rest)) → (rest : List ℕ) (call : AppCall)
    → option_map f (text_in rest) ≡ Some call → IsCallOf kind rest call
text_call f kind made rest call e =
    let m = mapped f (text_in rest) call e in
    let t = text-written rest m.0 m.1 in
    subst (λ c. IsCallOf kind rest c) (ap f (sym t.0) ∙ m.2) (made rest (subst (λ z. is_text z ≡ true) t.0 t.1))

setting_by : (b : ℕ) (more : List ℕ) (o : Option ItemName) (call : AppCall) → item_of_number b ≡ o → setting_of o more ≡ Some call → IsCallOf names.SetItem (b ∷ more) call
setting_by b more None call h e = absurd cc
setting_by b more (Some item) call h e =
    let m = mapped (calls.SetItem item) (value_in more) call e in
    let v = value-written more m.0 m.1 in
    let n = item_number-read b item h in
    subst (λ c. IsCallOf names.SetItem (b ∷ more) c) m.2 (record { kind_is = refl; bytes = rw (n, v.bytes) refl; within = v.within })

start_made : (size : ℕ) (more : List ℕ) (user : Option (List ℕ)) → nat_le size (length more) ≡ true → is_service_name (take size more) ≡ true → IsValueOf (drop size more) user
    → IsCallOf names.Start (size ∷ more) (calls.Start (take size more) user)
start_made size more user fits named v = record {
  kind_is = refl;
  bytes = rw (length-take-le size more (leb-true size (length more) fits), v.bytes, take-append-drop size more) refl;
  within = and_from (is_service_name (take size more)) (is_value user) named v.within;
}

start_by : (size : ℕ) (more : List ℕ) (call : AppCall) (t : Bool) → (nat_le size (length more) && is_service_name (take size more)) ≡ t
    → cond t (option_map (calls.Start (take size more)) (value_in (drop size more))) None ≡ Some call → IsCallOf names.Start (size ∷ more) call
start_by size more call true h e =
    let both = and_parts (nat_le size (length more)) (is_service_name (take size more)) h in
    let m = mapped (calls.Start (take size more)) (value_in (drop size more)) call e in
    subst (λ c. IsCallOf names.Start (size ∷ more) c) m.2 (start_made size more m.0 both.0 both.1 (value-written (drop size more) m.0 m.1))
start_by size more call false h e = absurd cc

start_call : (rest : List ℕ) (call : AppCall) → start_in rest ≡ Some call → IsCallOf names.Start rest call
start_call [] call e = absurd cc
start_call (size ∷ more) call e = start_by size more call _ refl e

setting_call : (rest : List ℕ) (call : AppCall) → setting_in rest ≡ Some call → IsCallOf names.SetItem rest call
setting_call [] call e = absurd cc
setting_call (b ∷ more) call e = setting_by b more (item_of_number b) call refl e

list_call : (rest : List ℕ) (call : AppCall) → list_in rest ≡ Some call → IsCallOf names.EnvList rest call
list_call [] call e = subst (λ c. IsCallOf names.EnvList [] c) (same_Some calls.EnvList call e) (record { kind_is = refl; bytes = refl; within = refl })
list_call (b ∷ bs) call e = absurd cc

get_call : (rest : List ℕ) (call : AppCall) → option_map calls.GetItem (item_in rest) ≡ Some call → IsCallOf names.GetItem rest call
get_call rest call e =
    let m = mapped calls.GetItem (item_in rest) call e in
    subst (λ c. IsCallOf names.GetItem rest c) m.2 (record { kind_is = refl; bytes = item-written rest m.0 m.1; within = refl })

switch_call : (rest : List ℕ) (call : AppCall) → option_map calls.DelayFn (switch_in rest) ≡ Some call → IsCallOf names.DelayFn rest call
switch_call rest call e =
    let m = mapped calls.DelayFn (switch_in rest) call e in
    subst (λ c. IsCallOf names.DelayFn rest c) m.2 (record { kind_is = refl; bytes = switch-written rest m.0 m.1; within = refl })

name_call : (rest : List ℕ) (call : AppCall) → option_map calls.GetEnv (name_in rest) ≡ Some call → IsCallOf names.GetEnv rest call
name_call rest call e =
    let m = mapped calls.GetEnv (name_in rest) call e in
    let t = name-written rest m.0 m.1 in
    subst (λ c. IsCallOf names.GetEnv rest c) m.2 (record { kind_is = refl; bytes = t.0; within = t.1 })

pub call-written : (kind : CallName) (rest : List ℕ) (call : AppCall) → AreBytes rest → call_in kind rest ≡ Some call → IsCallOf kind rest call
call-written names.Start rest call all e = start_call rest call e
call-written names.End rest call all e = number_call calls.End names.End (λ r n i. record { kind_is = refl; bytes = i.bytes; within = i.within }) rest call all e
call-written (names.Run funcs.Authenticate) rest call all e = number_call calls.Authenticate (names.Run funcs.Authenticate) (λ r n i. record { kind_is = refl; bytes = i.bytes; within = i.within }) rest call all e
call-written (names.Run funcs.SetCred) rest call all e = number_call calls.SetCred (names.Run funcs.SetCred) (λ r n i. record { kind_is = refl; bytes = i.bytes; within = i.within }) rest call all e
call-written (names.Run funcs.AcctMgmt) rest call all e = number_call calls.AcctMgmt (names.Run funcs.AcctMgmt) (λ r n i. record { kind_is = refl; bytes = i.bytes; within = i.within }) rest call all e
call-written (names.Run funcs.OpenSession) rest call all e = number_call calls.OpenSession (names.Run funcs.OpenSession) (λ r n i. record { kind_is = refl; bytes = i.bytes; within = i.within }) rest call all e
call-written (names.Run funcs.CloseSession) rest call all e = number_call calls.CloseSession (names.Run funcs.CloseSession) (λ r n i. record { kind_is = refl; bytes = i.bytes; within = i.within }) rest call all e
call-written (names.Run funcs.ChAuthTok) rest call all e = number_call calls.ChAuthTok (names.Run funcs.ChAuthTok) (λ r n i. record { kind_is = refl; bytes = i.bytes; within = i.within }) rest call all e
call-written names.SetItem rest call all e = setting_call rest call e
call-written names.GetItem rest call all e = get_call rest call e
call-written names.PutEnv rest call all e = text_call calls.PutEnv names.PutEnv (λ r h. record { kind_is = refl; bytes = refl; within = h }) rest call e
call-written names.GetEnv rest call all e = name_call rest call e
call-written names.EnvList rest call all e = list_call rest call e
call-written names.FailDelay rest call all e = number_call calls.FailDelay names.FailDelay (λ r n i. record { kind_is = refl; bytes = i.bytes; within = i.within }) rest call all e
call-written names.DelayFn rest call all e = switch_call rest call e
call-written names.Reply rest call all e = text_call calls.Reply names.Reply (λ r h. record { kind_is = refl; bytes = refl; within = h }) rest call e

-- ---- and a call that was written is read

start-read : (service : List ℕ) (user : Option (List ℕ)) → (is_service_name service && is_value user) ≡ true → start_in (length service ∷ service ++ value_bytes user) ≡ Some (calls.Start service user)
start-read service user e =
    let both = and_parts (is_service_name service) (is_value user) e in
    let fits : nat_le (length service) (length (service ++ value_bytes user)) ≡ true = le-leb _ _ (omega (arith, length-append service (value_bytes user))) in
    rw (fits, take-append_seam service (value_bytes user), both.0, drop-append_seam service (value_bytes user), value-read user both.1) refl

pub call-read : (call : AppCall) → is_sound call ≡ true → call_in (name_of_call call) (rest_of call) ≡ Some call
call-read (calls.Start service user) e = start-read service user e
call-read (calls.End status) e = ap (option_map calls.End) (number-read status e)
call-read (calls.Authenticate flags) e = ap (option_map calls.Authenticate) (number-read flags e)
call-read (calls.SetCred flags) e = ap (option_map calls.SetCred) (number-read flags e)
call-read (calls.AcctMgmt flags) e = ap (option_map calls.AcctMgmt) (number-read flags e)
call-read (calls.OpenSession flags) e = ap (option_map calls.OpenSession) (number-read flags e)
call-read (calls.CloseSession flags) e = ap (option_map calls.CloseSession) (number-read flags e)
call-read (calls.ChAuthTok flags) e = ap (option_map calls.ChAuthTok) (number-read flags e)
call-read (calls.SetItem item value) e = rw (item-read item, value-read value e) refl
call-read (calls.GetItem item) e = rw (item-read item) refl
call-read (calls.PutEnv text) e = rw e refl
call-read (calls.GetEnv name) e = rw e refl
call-read calls.EnvList e = refl
call-read (calls.FailDelay micros) e = ap (option_map calls.FailDelay) (number-read micros e)
call-read (calls.DelayFn true) e = refl
call-read (calls.DelayFn false) e = refl
call-read (calls.Reply text) e = rw e refl

-- ---- kinds

pub kind-read : (kind : CallName) → call_of_number (number_of kind) ≡ Some kind
kind-read names.Start = refl
kind-read names.End = refl
kind-read (names.Run funcs.Authenticate) = refl
kind-read (names.Run funcs.SetCred) = refl
kind-read (names.Run funcs.AcctMgmt) = refl
kind-read (names.Run funcs.OpenSession) = refl
kind-read (names.Run funcs.CloseSession) = refl
kind-read (names.Run funcs.ChAuthTok) = refl
kind-read names.SetItem = refl
kind-read names.GetItem = refl
kind-read names.PutEnv = refl
kind-read names.GetEnv = refl
kind-read names.EnvList = refl
kind-read names.FailDelay = refl
kind-read names.DelayFn = refl
kind-read names.Reply = refl

pub kind_number-read : (number : ℕ) (kind : CallName) → call_of_number number ≡ Some kind → number_of kind ≡ number
kind_number-read number kind e = eqb-true (number_of kind) number (found (λ kind. eqb (number_of kind) number) all_calls kind e)
